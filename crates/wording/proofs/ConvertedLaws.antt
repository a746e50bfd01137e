-- What the converter gives, as it is told: the first places of its six are the values. Assumes nothing.
use Prim.Native.Nat.{ℕ, ◌≤◌, ◌<◌}
use native.Mathlib.Omega.{arith}
use mathlib.Core.List.{List, [], ◌∷◌}
use mathlib.Core.Path.{◌≡◌, ap, ◌∙◌}
use lib.ListN.{length, length-append}
use lib.Seq.{take-append_seam}
use Rattle.station.specs.declared.Converted.{Converted}
use Rattle.station.specs.Station.{number_of, values_in, convert_of}
use Rattle.station.proofs.WritableLaws.{writable}
use Rattle.text.specs.Text.{bytes_of, holding, writes}
use Rattle.text.specs.declared.Text.{Text}
use Rattle.wording.specs.Stations.{command_in, told_of, converted_text, station_text}
use Rattle.wording.proofs.WordingLaws.{held_whole}

-- No more values than places.
pub within_six : (m : List ℕ) {r : Converted} → r ≡ convert_of m → r.count ≤ 6
unfolding convert_of
within_six m e = omega (arith, ap (λ (x : Converted). x.count) e, (writable m).most)

told_is : (m : List ℕ) → told_of (convert_of m) ≡ converted_text (number_of m) (values_in m)
unfolding convert_of
told_is m = ap (converted_text (number_of m)) (take-append_seam (values_in m) _)

-- The command with its end, as a text holds it and hands it on.
module _ (s : Text) (l : List ℕ) (h : length l < 100) {t : Text} (e : t ≡ holding (command_in l)) where
  command_is : bytes_of t ≡ command_in l
  command_is = ap bytes_of e ∙ held_whole (command_in l) (omega (arith, length-append l (0 ∷ [])))

  pub station_told : {f : List ℕ} {r : Converted} {x : Text} → f ≡ bytes_of t → r ≡ convert_of f
      → x ≡ writes s (told_of r) → x ≡ writes s (station_text l)
  unfolding station_text
  station_told p q g =
      g ∙ ap (writes s) (ap told_of (q ∙ ap convert_of (p ∙ command_is)) ∙ told_is (command_in l))
