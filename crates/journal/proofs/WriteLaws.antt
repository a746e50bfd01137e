-- Laws of the functions that count a number's groups and write them: with no further group, and before one more.
-- Assumes nothing.
use Prim.Native.Nat.{ℕ, zero, suc, ◌+◌, ◌-◌, ◌/◌, ◌%◌, ◌≤◌, ◌<◌}
use mathlib.Core.List.{List, [], ◌∷◌}
use mathlib.Core.Path.{◌≡◌, sym, ap, ◌∙◌}
use native.Mathlib.Omega.{arith}
use lib.ListN.{length, set}
use Rattle.block.specs.Block.{put}
use Rattle.block.proofs.Places.{put_one, put_put}
use Rattle.journal.specs.Numbers.{groups}
use Rattle.journal.specs.Inner.{capacity}
use Rattle.journal.proofs.GroupLaws.{group_one, group_more}

pub next_group : (more n : ℕ) → 1 ≤ more → 128 ≤ n → groups more n ≡ (128 + n % 128) ∷ groups (more - 1) (n / 128)
next_group zero n h k = absurd (omega arith)
next_group (suc more) n h k = let e : suc more - 1 ≡ more = omega arith in rw e (group_more more n k)

pub next_length : (more n : ℕ) → 1 ≤ more → 128 ≤ n → length (groups more n) ≡ 1 + length (groups (more - 1) (n / 128))
next_length more n h k = ap length (next_group more n h k) ∙ omega arith

pub no_group : (more n : ℕ) → more ≡ 0 → 1 ≡ length (groups more n)
unfolding groups
no_group more n e = rw e

pub last_length : (more n : ℕ) → n < 128 → length (groups more n) ≡ 1
last_length more n h = ap length (group_one more n h)

-- A number that wants a further group may have one, and what goes into it is small enough.
pub some_more : (more n : ℕ) → n < capacity more → 128 ≤ n → 1 ≤ more
unfolding capacity
some_more zero n h k = absurd (omega arith)
some_more (suc more) n h k = omega arith

pub smaller : (more n : ℕ) → n < capacity more → 128 ≤ n → n / 128 < capacity (more - 1)
unfolding capacity
smaller zero n h k = absurd (omega arith)
smaller (suc more) n h k = let e : suc more - 1 ≡ more = omega arith in rw e (omega arith)

module _ (at more n : ℕ) (d : List ℕ) (room : at + length (groups more n) ≤ length d) where
  pub last_written : n < 128 → (at + 1 ≡ at + length (groups more n)) × (set d at n ≡ put at (groups more n) d)
  last_written h =
      let l = last_length more n h in (
        omega arith,
        put_one at d n (omega arith) ∙ ap (λ (s : List ℕ). put at s d) (sym (group_one more n h)),
      )

  pub next_written : (r : ℕ) (x : List ℕ) → 1 ≤ more → 128 ≤ n → r ≡ at + 1 + length (groups (more - 1) (n / 128))
      → x ≡ put (at + 1) (groups (more - 1) (n / 128)) (set d at (128 + n % 128))
      → (r ≡ at + length (groups more n)) × (x ≡ put at (groups more n) d)
  next_written r x m h p q =
      let l = next_length more n m h in (
        omega arith,
        q ∙ ap (put (at + 1) (groups (more - 1) (n / 128))) (put_one at d (128 + n % 128) (omega arith))
            ∙ put_put at ((128 + n % 128) ∷ []) (groups (more - 1) (n / 128)) d (omega arith)
            ∙ ap (λ (s : List ℕ). put at s d) (sym (next_group more n m h)),
      )
