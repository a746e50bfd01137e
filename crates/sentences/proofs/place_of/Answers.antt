-- The place of a word: the one place whose word it is, or that of no word. Assumes nothing.
use Rattle.std.proofs.Common.{Option, None, Some, ◌≡◌, refl, ap, ◌∙◌, rules, tests}
use Rattle.std.specs.Option.{option_map, unwrap_or}
use Rattle.std.proofs.lemmas.Iterator.{YieldsList-from_range}
use Rattle.std.proofs.lemmas.Iterator.Search.{find_from_yields_List}
use Prim.Native.Nat.{ℕ}
use Rattle.sentences.specs.Sentences.{is_word}
use Rattle.sentences.proofs.PlaceLaws.{places, first_is}
use Rattle.sentences.proofs.place_of.Goals as goal

as_found : (r : Option ℕ) → unwrap_or r 23 ≡ unwrap_or (option_map (λ x. x) r) 23
as_found None = refl
as_found (Some x) = refl

pub returns-clause-value : goal.returns-clause-value
returns-clause-value c =
    let w = c.args.w.now in
    let e = find_from_yields_List (λ k. is_word k w) _ _ c.find.result c.find.ensures.ran
    (YieldsList-from_range 0 23 23 (cc) (cc)) (λ x b q k. search (rules, tests)) in
    c.unwrap_or.ensures ∙ (as_found c.find.result ∙ (ap (λ o. unwrap_or o 23) e ∙ first_is w))

pub returns-clause-places : goal.returns-clause-places
returns-clause-places c = places
