-- Whether a table has a name: what the library's search for it says. Assumes nothing.
use Rattle.std.specs.List.{list_any}
use Rattle.std.specs.Str.{bytes_eq}
use Prim.Native.Nat.{ℕ}
use Prim.Native.String.{String}
use mathlib.Core.Bool.{Bool, true, false, cond, ◌||◌}
use mathlib.Core.List.{List, [], ◌∷◌}
use mathlib.Core.Path.{◌≡◌, refl, sym, ◌∙◌}
use Rattle.text.specs.Parts.{same}
use Rattle.machine.specs.Calls.{chars}
use Rattle.station.specs.Names.{is_among}
use Rattle.station.proofs.MarkLaws.{equal_back}

module _ (w : List ℕ) where
  -- The search through a table of the names' letters.
  abbrev pub found : List String → Bool
  found ns = list_any (λ (n : String). bytes_eq (chars n) w) ns

  one_more : (a b c d : Bool) → a ≡ b → c ≡ d → a || c ≡ cond b true d
  one_more true b c d e f = rw (sym e)
  one_more false b c d e f = rw (sym e) f

  pub found_is : (ns : List String) → found ns ≡ is_among ns w
  unfolding is_among
  found_is [] = refl
  found_is (n ∷ ns) = one_more _ _ _ _ (equal_back (chars n) w) (found_is ns)

  abbrev is : String → Bool
  is n = same w (chars n)

  pub found_two : (m n : String) → found (m ∷ n ∷ []) ≡ is m || is n
  unfolding is_among
  found_two m n = found_is (m ∷ n ∷ []) ∙ when (is m) (is n)
    where
      when : (a b : Bool) → cond a true (cond b true false) ≡ a || b
      when true b = refl
      when false true = refl
      when false false = refl

  pub found_four : (k m n o : String) → found (k ∷ m ∷ n ∷ o ∷ []) ≡ is k || (is m || (is n || is o))
  unfolding is_among
  found_four k m n o = found_is (k ∷ m ∷ n ∷ o ∷ []) ∙ when (is k) (is m) (is n) (is o)
    where
      when : (a b c d : Bool)
          → cond a true (cond b true (cond c true (cond d true false))) ≡ a || (b || (c || d))
      when true b c d = refl
      when false true c d = refl
      when false false true d = refl
      when false false false true = refl
      when false false false false = refl
