-- Whether a line begins with T, by where the input stands. Assumes nothing.
use mathlib.Core.Path.{sym, ap}
use Rattle.session.specs.declared.state.Place.{Place}
use Rattle.session.specs.Stretch.{keeps_of}
use Rattle.session.proofs.stretch.keeps.Goals as goal

pub returns-in-Start : goal.returns-in-Start
returns-in-Start c = ap (λ (p : Place). keeps_of p c.args.b) (sym c.in-Start.is)

pub returns-in-Sending : goal.returns-in-Sending
returns-in-Sending c = ap (λ (p : Place). keeps_of p c.args.b) (sym c.in-Sending.is)

pub returns-in-Asking : goal.returns-in-Asking
returns-in-Asking c = ap (λ (p : Place). keeps_of p c.args.b) (sym c.in-Asking.is)
