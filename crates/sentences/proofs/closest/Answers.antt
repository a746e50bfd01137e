-- The best of all places, one after another. Assumes nothing.
use Rattle.std.proofs.Common.{ℕ, zero, suc, ◌+◌, List, ◌≡◌, refl, ap, ◌∙◌, arith, rules}
use Rattle.std.specs.List.{fold, range_with_len}
use Rattle.std.proofs.lemmas.Iterator.{YieldsList-from_range}
use Rattle.std.proofs.lemmas.Iterator.Consumers.{fold_from_yields_List}
use Rattle.sentences.specs.Sentences.{better_of, closest}
use Rattle.sentences.proofs.closest.Goals as goal

-- The last of a row of numbers comes last.
last_of : (f : ℕ → ℕ → ℕ) (n s a : ℕ) → fold f a (range_with_len s (suc n)) ≡ f (fold f a (range_with_len s n)) (s + n)
last_of f zero s a = let e : s + 0 ≡ s = omega arith in rw e
last_of f (suc n) s a = let e : s + suc n ≡ s + 1 + n = omega arith in rw e (last_of f n (s + 1) (f a s))

-- The best of the first n places, found from the first on.
best_of : (n : ℕ) (w : List ℕ) → fold (better_of w) 23 (range_with_len 0 n) ≡ closest n w
unfolding closest
best_of zero w = refl
best_of (suc n) w =
    let e : 0 + n ≡ n = omega arith in
    last_of (better_of w) n 0 23 ∙ rw e (ap (λ j. better_of w j n) (best_of n w))

pub returns : goal.returns
returns c =
    let w = c.args.w.now in
    fold_from_yields_List _ (better_of w) 23 _ c.fold.ensures.ran (YieldsList-from_range 0 23 23 (cc) (cc))
    (λ a x r q k. search rules)
    ∙ best_of 23 w
