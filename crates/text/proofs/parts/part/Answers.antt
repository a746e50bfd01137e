-- The part at a place: what `split` gives there, or no byte. Assumes nothing.
use Rattle.std.proofs.Common.{ℕ, zero, suc, List, [], ◌∷◌, Option, None, Some, get_or, eqb, ◌≡◌, refl, ap, ◌∙◌, rules, tests}
use Rattle.std.specs.List.{slice_get, slice_split}
use Rattle.std.specs.Option.{option_map, unwrap_or}
use Rattle.std.proofs.lemmas.Iterator.Consumers.{nth_from_yields_List}
use Rattle.std.proofs.lemmas.Iterator.Splits.{YieldsList-from_slice_split}
use denote.Ref.{Bor}
use Rattle.text.proofs.PartLaws.{split_part}
use Rattle.text.proofs.parts.part.Goals as goal

behind_reference : (r : Option (Bor (List ℕ))) (d : Bor (List ℕ))
    → (unwrap_or r d).now ≡ unwrap_or (option_map (λ x. x.now) r) d.now
behind_reference None d = refl
behind_reference (Some x) d = refl

at_place : (ps : List (List ℕ)) (k : ℕ) → unwrap_or (slice_get ps k) [] ≡ get_or ps k []
at_place [] k = refl
at_place (p ∷ ps) zero = refl
at_place (p ∷ ps) (suc k) = at_place ps k

pub returns : goal.returns
returns c =
    let bytes = c.args.bytes.now in
    let e = nth_from_yields_List c.nth.result _ c.args.k c.nth.ensures.ran
    (YieldsList-from_slice_split _ (λ x. eqb x c.args.mark) bytes c.split.ensures.rest c.split.ensures.done
    c.split.ensures.closure (λ x b q k. search (rules, tests))) in
    ap (λ x. x.now) c.unwrap_or.ensures
    ∙ (behind_reference c.nth.result _
    ∙ (ap (λ o. unwrap_or o []) e
    ∙ (at_place (slice_split (λ x. eqb x c.args.mark) bytes) c.args.k ∙ split_part c.args.mark c.args.k bytes)))
