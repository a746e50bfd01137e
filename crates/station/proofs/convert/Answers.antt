-- The answer by its three tests: the name is listed, it is one of the four, and what it says. Assumes nothing.
use Rattle.std.proofs.Common.{Result, Err}
use Prim.Native.Nat.{ℕ}
use mathlib.Core.Bool.{Bool}
use mathlib.Core.List.{List}
use mathlib.Core.Path.{◌≡◌, sym, ap, ◌∙◌}
use Rattle.station.specs.declared.Refusal.{Refusal}
use Rattle.station.specs.declared.Refusal.TheVariants.{Unknown, Lacked}
use Rattle.station.specs.declared.Requests.{Requests}
use Rattle.station.specs.Names.{is_listed}
use Rattle.station.specs.Forms.{is_ours}
use Rattle.station.specs.Station.{convert_of, answer}
use Rattle.station.specs.Spelled.{Spelled}
use Rattle.station.specs.Examples.{Examples}
use Rattle.station.specs.Writable.{Writable}
use Rattle.station.specs.Places.{Places}
use Rattle.station.specs.Executed.{Executes}
use Rattle.station.specs.Witness.{Witness}
use Rattle.station.specs.Taken.{Taken}
use Rattle.station.proofs.SpeedLaws.{answer_held}
use Rattle.station.proofs.ValueLaws.{unlisted, lacked, formed}
use Rattle.station.proofs.SpelledLaws.{spelled}
use Rattle.station.proofs.ExampleLaws.{examples}
use Rattle.station.proofs.WritableLaws.{writable}
use Rattle.station.proofs.PlaceLaws.{in_places}
use Rattle.station.proofs.ExecutedLaws.{executes}
use Rattle.station.proofs.WitnessLaws.{witness}
use Rattle.station.proofs.TakenLaws.{taken}
use Rattle.station.proofs.convert.Goals as goal

-- The answer, and what is promised besides.
promised : (r : Result Requests Refusal) (l : List ℕ) → answer r ≡ convert_of l
    → record {
      value : answer r ≡ convert_of l;
      spelled : Spelled;
      examples : Examples;
      writable : Writable;
      places : Places;
      executes : Executes;
      witness : Witness;
      taken : Taken;
    }
promised r l e = record {
  value = e;
  spelled = spelled;
  examples = examples;
  writable = writable;
  places = in_places;
  executes = executes;
  witness = witness;
  taken = taken;
}

-- What a test of the name w, which is n, answered.
asked : (test : List ℕ → Bool) (r : Bool) (w n : List ℕ) → r ≡ test w → w ≡ n → test n ≡ r
asked test r w n e f = sym (e ∙ ap test f)

pub returns-then-not-is_listed : goal.returns-then-not-is_listed
returns-then-not-is_listed c =
    promised (Err Unknown) _
    (unlisted c.args.command.now
    (asked is_listed _ _ _ c.is_listed.ensures c.name_of-name.ensures ∙ c.if-not-is_listed.true))

pub returns-then-not-is_ours : goal.returns-then-not-is_ours
returns-then-not-is_ours c =
    promised (Err Lacked) _
    (lacked c.args.command.now
    (asked is_listed _ _ _ c.is_listed.ensures c.name_of-name.ensures ∙ c.if-not-is_listed.false)
    (asked is_ours _ _ _ c.is_ours.ensures c.name_of-name.ensures ∙ c.if-not-is_ours.true))

pub returns-in_default : goal.returns-in_default
returns-in_default c =
    promised (Err Unknown) _
    (ap answer (ap answer_held (sym c.in_default.is ∙ c.form_of.ensures))
    ∙ formed c.args.command.now
    (asked is_listed _ _ _ c.is_listed.ensures c.name_of-name.ensures ∙ c.if-not-is_listed.false)
    (asked is_ours _ _ _ c.is_ours.ensures c.name_of-name.ensures ∙ c.if-not-is_ours.false))

pub returns : goal.returns
returns c =
    promised _ _
    (ap answer (c.values_of.ensures ∙ ap answer_held (sym c.in-Some.is ∙ c.form_of.ensures))
    ∙ formed c.args.command.now
    (asked is_listed _ _ _ c.is_listed.ensures c.name_of-name.ensures ∙ c.if-not-is_listed.false)
    (asked is_ours _ _ _ c.is_ours.ensures c.name_of-name.ensures ∙ c.if-not-is_ours.false))
