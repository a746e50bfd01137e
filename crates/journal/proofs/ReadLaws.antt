-- Laws of the function that reads a number: its answer where it ends, at a last group, and before one more.
-- Assumes nothing.
use Rattle.std.proofs.Common.{Ok, Err}
use Prim.Native.Nat.{ℕ, suc, ◌+◌, ◌-◌, ◌*◌, ◌≤◌, ◌<◌}
use mathlib.Core.List.{List, ◌∷◌}
use mathlib.Core.Path.{◌≡◌, refl, sym, ap, ◌∙◌}
use native.Mathlib.Numerals.{add-one}
use native.Mathlib.Omega.{arith}
use borrow.Author.Tests.{eq-eqb, ne_eqb}
use lib.ListN.{length, get_or, drop, drop_of_length-le}
use lib.Seq.{drop-cons}
use Rattle.journal.specs.declared.Found.{Found}
use Rattle.journal.specs.declared.Refusal.{Refusal}
use Rattle.journal.specs.declared.Refusal.TheVariants.{CutShort, Wrong}
use Rattle.journal.specs.Numbers.{Got, onto, found}
use Rattle.journal.specs.Numbers.Got.{cut, wrong, got}
use Rattle.journal.specs.Inner.{capacity, found_at}
use Rattle.journal.proofs.JudgeLaws.{read_is}
use Rattle.journal.proofs.GroupLaws.{
  found_nil,
  found_last,
  found_seventh,
  found_more,
  capacity_next,
}

-- ---- a group before what was read behind it

module _ (b at : ℕ) where
  passed_on : (g : Got ℕ) (n : Refusal) → Err n ≡ found_at (at + 1) g → Err n ≡ found_at at (onto b g)
  passed_on cut n e = e
  passed_on wrong n e = e
  passed_on (got m used) n e = cc

  longer : (g : Got ℕ) (one : Found ℕ) → Ok one ≡ found_at (at + 1) g → one.value ≡ 0
      → Err Wrong ≡ found_at at (onto b g)
  longer cut one e z = cc
  longer wrong one e z = refl
  longer (got n used) one e z =
      let q : n ≡ 0 = ap (λ (x : Found ℕ). x.value) (read_is n (at + 1 + used) one e) ∙ z in
      rw (eq-eqb n 0 q)

  joined : (g : Got ℕ) (one : Found ℕ) → Ok one ≡ found_at (at + 1) g → (one.value ≡ 0 → ⊥)
      → Ok (record { value = (b - 128) + 128 * one.value; next = one.next }) ≡ found_at at (onto b g)
  joined cut one e z = cc
  joined wrong one e z = cc
  joined (got n used) one e z =
      let q = read_is n (at + 1 + used) one e in
      let m : at + 1 + used ≡ at + (used + 1) = omega arith in
      rw (ne_eqb n 0 (λ (h : n ≡ 0). z (sym (ap (λ (x : Found ℕ). x.value) q) ∙ h)))
      ((λ i. Ok (record { value = (b - 128) + 128 * (sym q i).value; next = (sym q i).next }))
      ∙ (λ i. Ok (record { value = (b - 128) + 128 * n; next = m i })))

-- ---- the answer at a place

module _ (bytes : List ℕ) (at more : ℕ) where
  pub ended : length bytes ≤ at → Err CutShort ≡ found_at at (found more (drop at bytes))
  ended h = rw (drop_of_length-le bytes h, found_nil more)

  -- The byte at the place, as the code has it.
  module _ (b : ℕ) (inside : at < length bytes) (is : b ≡ get_or bytes at 0) where
    front : drop at bytes ≡ b ∷ drop (at + 1) bytes
    front = drop-cons bytes at 0 inside ∙ rw (add-one, is)

    pub last_group : b < 128 → Ok (record { value = b; next = at + 1 }) ≡ found_at at (found more (drop at bytes))
    last_group h = rw (front, found_last more b (drop (at + 1) bytes) h)

    pub seventh : 128 ≤ b → more ≡ 0 → Err Wrong ≡ found_at at (found more (drop at bytes))
    seventh high e = rw (front, e, found_seventh b (drop (at + 1) bytes) high)

    -- Before one group of m more.
    module _ (high : 128 ≤ b) (m : ℕ) (some : more ≡ suc m) where
      behind : found more (drop at bytes) ≡ onto b (found m (drop (at + 1) bytes))
      behind = rw (front, some) (found_more m b (drop (at + 1) bytes) high)

      pub next_refused : (n : Refusal) → Err n ≡ found_at (at + 1) (found m (drop (at + 1) bytes))
          → Err n ≡ found_at at (found more (drop at bytes))
      next_refused n e = passed_on b at (found m (drop (at + 1) bytes)) n e ∙ sym (ap (found_at at) behind)

      module _ (rest : Found ℕ) (e : Ok rest ≡ found_at (at + 1) (found m (drop (at + 1) bytes))) where
        pub next_zero : rest.value ≡ 0 → Err Wrong ≡ found_at at (found more (drop at bytes))
        next_zero z = longer b at (found m (drop (at + 1) bytes)) rest e z ∙ sym (ap (found_at at) behind)

        pub next_joined : (rest.value ≡ 0 → ⊥)
            → Ok (record { value = (b - 128) + 128 * rest.value; next = rest.next })
            ≡ found_at at (found more (drop at bytes))
        next_joined z = joined b at (found m (drop (at + 1) bytes)) rest e z ∙ sym (ap (found_at at) behind)

-- ---- how large it is

pub value_fits : (more m b n : ℕ) → more ≡ suc m → b < 256 → n < capacity m → (b - 128) + 128 * n < capacity more
value_fits more m b n e h k = rw e (omega (arith, capacity_next m))
