-- The lines, or the number that turns the command away. Assumes nothing.
use mathlib.Core.Path.{◌≡◌, refl, sym, ap, ◌∙◌}
use Rattle.std.proofs.Common.{Result, Err}
use Rattle.station.specs.declared.Refusal.{Refusal}
use Rattle.station.specs.declared.Refusal.TheVariants.{Unknown, Lacked, OutOfRange}
use Rattle.station.specs.declared.Requests.{Requests}
use Rattle.station.specs.Station.{refusal_number, answer}
use Rattle.sentences.specs.Sentences.{turned_text}
use Rattle.text.specs.Text.{writes}
use Rattle.wording.specs.Stations.{told_of}
use Rattle.wording.proofs.stations.told.Goals as goal

refused : (e : Refusal) → turned_text (refusal_number e) ≡ told_of (answer (Err e))
refused Unknown = refl
refused Lacked = refl
refused OutOfRange = refl

pub returns-in-Ok : goal.returns-in-Ok
returns-in-Ok c =
    c.lines.ensures ∙ ap (λ (r : Result Requests Refusal). writes c.args.text (told_of (answer r))) (sym c.in-Ok.is)

pub returns-in-Err : goal.returns-in-Err
returns-in-Err c =
    c.turned_away.ensures
    ∙ ap (writes c.args.text)
    (ap turned_text c.into.ensures ∙ refused c.in-Err.refusal
    ∙ ap (λ (r : Result Requests Refusal). told_of (answer r)) (sym c.in-Err.is))
