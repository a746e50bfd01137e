-- The nearest place, by induction over the first n places: what is true of the best of them is true of the best of
-- one more. Assumes nothing.
use Prim.Native.Nat.{ℕ, zero, suc, ◌≤◌, ◌<◌}
use mathlib.Core.List.{List}
use mathlib.Core.Path.{◌≡◌, refl, ap}
use native.Mathlib.Omega.{arith}
use Rattle.receiver.specs.Receiver.{before}
use Rattle.text.specs.Parts.{behind, common}
use Rattle.laws.proofs.Pick.{by_lt}
use Rattle.sentences.specs.Sentences.{keywords, shared, closest}
use Rattle.sentences.specs.Promises.{Nearest}

-- Place c is the best of the first n by the count f, and the first of these; or it is 23.
record Among (f : ℕ → ℕ) (n c : ℕ) : Type 0 where
  within : c ≤ 23
  best : (k : ℕ) → k < n → f k ≤ f c
  first : c < 23 → (k : ℕ) → k < c → f k < f c
  some : c < 23 → 0 < f c

-- A fact about each place below n and about n is one about each below suc n.
below_suc : (P : ℕ → Type 0) (n : ℕ) → ((k : ℕ) → k < n → P k) → P n → (k : ℕ) → k < suc n → P k
below_suc P n less here k h =
    by_lt (λ (x : ℕ). P k) k n 0 0 (less k)
    (λ (g : n ≤ k). let e : k ≡ n = omega (arith, g, h) in rw e here)

-- One place more, that is better than the best before it.
goes : (f : ℕ → ℕ) (n c : ℕ) → n < 23 → Among f n c → f c < f n → Among f (suc n) n
goes f n c h a g = record {
  within = omega (arith, h);
  best = below_suc (λ (k : ℕ). f k ≤ f n) n (λ k l. omega (arith, a.best k l, g)) (omega arith);
  first = λ _ k l. omega (arith, a.best k l, g);
  some = λ _. omega (arith, g);
}

-- One place more, that is no better.
stays : (f : ℕ → ℕ) (n c : ℕ) → Among f n c → f n ≤ f c → Among f (suc n) c
stays f n c a g = record {
  within = a.within;
  best = below_suc (λ (k : ℕ). f k ≤ f c) n a.best g;
  first = a.first;
  some = a.some;
}

among : (n : ℕ) (w : List ℕ) → n ≤ 23 → Among (λ (k : ℕ). shared k w) n (closest n w)
unfolding closest
among zero w h = record {
  within = omega arith;
  best = λ k l. absurd (omega (arith, l));
  first = λ l. absurd (omega (arith, l));
  some = λ l. absurd (omega (arith, l));
}
among (suc n) w h =
    let f : ℕ → ℕ = λ (k : ℕ). shared k w in
    let a : Among f n (closest n w) = among n w (omega (arith, h)) in
    by_lt (Among f (suc n)) (f (closest n w)) (f n) n (closest n w)
    (goes f n (closest n w) (omega (arith, h)) a)
    (stays f n (closest n w) a)

-- Row 23 of the words is empty.
none_shared : (w : List ℕ) → shared 23 w ≡ 0
unfolding before behind common keywords
none_shared w = refl

pub nearest : (w : List ℕ) → Nearest w
nearest w =
    let f : ℕ → ℕ = λ (k : ℕ). shared k w in
    let a : Among f 23 (closest 23 w) = among 23 w (omega arith) in
    record {
      within = a.within;
      best = a.best;
      first = a.first;
      some = a.some;
      none = λ e k l. omega (arith, a.best k l, ap f e, none_shared w);
    }
