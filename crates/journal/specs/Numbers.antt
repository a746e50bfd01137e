-- The numbers of a journal (paper 02, 1/14): how one is spelled, how one is read, and how a signed one is stored.
use Rattle.std.specs.Prelude.{ℕ, zero, suc, ◌+◌, ◌-◌, ◌*◌, ◌/◌, ◌%◌, cond, List, [], ◌∷◌, ltb, eqb, ℤ, pos, negsuc}

-- ---- writing

-- Groups of seven bits, low group first, top bit (128) set on all but the last, shortest form: one group, and as many
-- more as n wants, up to so many.
unfoldable pub groups : ℕ → ℕ → List ℕ
groups zero n = n ∷ []
groups (suc more) n = cond (ltb n 128) (n ∷ []) ((128 + n % 128) ∷ groups more (n / 128))

-- Seven groups at most.
abbrev pub spelling : ℕ → List ℕ
spelling n = groups 6 n

-- ---- reading

-- What is read: cut short; a longer spelling or a value out of range; or a thing, and how many bytes it took.
pub data Got (A : Type 0) : Type 0 where
  cut : Got A
  wrong : Got A
  got : A → ℕ → Got A

-- A group with its top bit set, before the number that the further groups spell. Where that is 0 the spelling is a
-- longer one: it would do without them.
abbrev pub onto : ℕ → Got ℕ → Got ℕ
onto b cut = cut
onto b wrong = wrong
onto b (got n used) = cond (eqb n 0) wrong (got ((b - 128) + 128 * n) (used + 1))

-- A number at the front of the bytes, of one group and up to so many more. A last group that has its top bit set is
-- wrong, whatever follows; any other number is judged where it ends.
unfoldable pub found : ℕ → List ℕ → Got ℕ
found more [] = cut
found zero (b ∷ bs) = cond (ltb b 128) (got b 1) wrong
found (suc more) (b ∷ bs) = cond (ltb b 128) (got b 1) (onto b (found more bs))

-- ---- signed numbers

-- Signed n is stored as 2n, or -2n - 1 below zero. (`negsuc k` is -(k + 1).)
abbrev pub stored : ℤ → ℕ
stored (pos n) = 2 * n
stored (negsuc k) = 2 * suc k - 1

-- The number that is stored so.
abbrev pub signed : ℕ → ℤ
signed n = cond (eqb (n % 2) 0) (pos (n / 2)) (negsuc (n / 2))
