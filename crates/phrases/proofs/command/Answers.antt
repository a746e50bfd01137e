-- What is printed for a command in words, by what they mean. Assumes nothing.
use Rattle.std.proofs.Common.{Err}
use mathlib.Core.Path.{sym, ap, ◌∙◌}
use Rattle.text.specs.Text.{writes}
use Rattle.sentences.specs.Sentences.{turned_text}
use Rattle.phrases.specs.Meanings.{meant_by}
use Rattle.phrases.specs.Phrases.{is_silent, unsilenced, named_of, line_text, request_text, command_text}
use Rattle.phrases.proofs.command.Goals as goal

pub returns-in-Ok : goal.returns-in-Ok
unfolding command_text
returns-in-Ok c =
    let l = c.args.line.now in
    let named = c.ident_in.ensures ∙ ap named_of c.unsilenced.ensures in
    let meant = sym (c.meaning_of.ensures ∙ ap meant_by c.body.ensures) ∙ c.in-Ok.is in
    c.line_of.ensures
    ∙ ap (writes c.args.text)
    ((λ i. line_text (record {
      silent = c.is_silent.ensures i;
      command = c.in-Ok.command;
      ident = (named i).ident;
    }))
    ∙ sym (ap (request_text (is_silent l) (named_of (unsilenced l)).ident l) meant))

pub returns-in-Err-Misspelled : goal.returns-in-Err-Misspelled
unfolding command_text
returns-in-Err-Misspelled c =
    let l = c.args.line.now in
    let meant = sym (c.meaning_of.ensures ∙ ap meant_by c.body.ensures) ∙ c.in-Err-Misspelled.is ∙ ap Err c.in-Err-Misspelled.field-0-is in
    c.nearest.ensures
    ∙ ap (writes c.args.text)
    (sym (ap (request_text (is_silent l) (named_of (unsilenced l)).ident l) meant))

pub returns-in-Err-NotExact : goal.returns-in-Err-NotExact
unfolding command_text
returns-in-Err-NotExact c =
    let l = c.args.line.now in
    let meant = sym (c.meaning_of.ensures ∙ ap meant_by c.body.ensures) ∙ c.in-Err-NotExact.is ∙ ap Err c.in-Err-NotExact.field-0-is in
    c.turned_away.ensures
    ∙ ap (writes c.args.text)
    (ap turned_text c.from.ensures ∙ sym (ap (request_text (is_silent l) (named_of (unsilenced l)).ident l) meant))
