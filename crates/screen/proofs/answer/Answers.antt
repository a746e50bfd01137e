-- What is printed to a line that begins with D, by what it asks: the question, or the trial on screen. Assumes nothing.
use mathlib.Core.Path.{sym, ◌∙◌}
use Rattle.machine.specs.Calls.{state}
use Rattle.screen.proofs.AnswerLaws.{trial_shown, trial_whole}
use Rattle.screen.proofs.PageLaws.{forms, screens}
use Rattle.screen.proofs.ShareLaws.{shares, times}
use Rattle.screen.proofs.answer.Goals as goal

pub returns-in_default-clause-shares : goal.returns-in_default-clause-shares
returns-in_default-clause-shares c = shares

pub returns-in_default-clause-times : goal.returns-in_default-clause-times
returns-in_default-clause-times c = times

pub returns-in_default-clause-forms : goal.returns-in_default-clause-forms
returns-in_default-clause-forms c = forms

pub returns-in_default-clause-screens : goal.returns-in_default-clause-screens
returns-in_default-clause-screens c = screens

pub returns : goal.returns
returns c =
    let e = sym c.parse_trial.ensures ∙ c.in-Some.is in
    let t = c.temixohuel_trial-trial.ensures.made in record {
      made = λ w h q. trial_shown (state w h) e (t w h q) c.screen.ensures.value;
      made_2 = λ w h q. trial_whole (state w h) e (t w h q) c.screen.ensures.whole;
      shares = shares;
      times = times;
      forms = forms;
      screens = screens;
    }
