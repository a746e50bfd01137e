-- Paper 02, 7/14: data digits ignore the case, and condition 7 takes an identification in either. `judge` promises
-- `CaseIgnored`.
use Rattle.std.specs.Prelude.{ℕ, ◌-◌, ◌≤◌, ◌<◌, cond, List, ◌≡◌, ltb, length}
use Rattle.line.specs.Line.{char_at, judge_of}

-- a-f (97 to 102) as A-F, every other character as it is.
abbrev pub raised : ℕ → ℕ
raised c = cond (ltb c 97) c (cond (ltb c 103) (c - 32) c)

-- Two lines of the same letter, switch and length, that differ at most in the case of their digits and identification.
pub record Alike (cs es : List ℕ) : Type 0 where
  pub size : length cs ≡ length es
  pub letter : char_at cs 0 ≡ char_at es 0
  pub switch : char_at cs 1 ≡ char_at es 1
  pub others : (i : ℕ) → 2 ≤ i → i < 9 → raised (char_at cs i) ≡ raised (char_at es i)

-- They are judged alike: the same command and digits, or the same number.
abbrev pub CaseIgnored : Type 0
CaseIgnored = (cs es : List ℕ) → Alike cs es → judge_of cs ≡ judge_of es
