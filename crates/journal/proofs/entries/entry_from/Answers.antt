-- The entry with seven numbers that fit: each is small enough for its field. Assumes nothing.
use Rattle.std.proofs.Common.{rules, All}
use Rattle.std.specs.Iterator.{Yields}
use Rattle.std.specs.Array.{list_steps}
use native.Mathlib.Omega.{arith}
use mathlib.Core.List.{List, [], ◌∷◌}
use mathlib.Core.Path.{◌≡◌, refl}
use lib.ListN.{get_or}
use Prim.Native.Nat.{ℕ, ◌<◌}
use Rattle.journal.specs.Entries.{travel_range, cause_range, ranges}
use Rattle.laws.proofs.Five.{five}
use Rattle.journal.proofs.RangeLaws.{fit_at, within_most, travel_at, item_small}
use Rattle.journal.proofs.entries.entry_from.Goals as goal

pub map-requires : goal.map-requires
map-requires c =
    let v = c.args.values in
    let at = λ (k : ℕ). get_or v k 0 in
    let l = at 2 ∷ at 3 ∷ at 4 ∷ at 5 ∷ at 6 ∷ [] in
    let all : All (λ n. n < 1048576) l =
    λ k d. five (λ n. get_or l n d < 1048576) (travel_at v 2 c.requires (omega arith) refl)
    (travel_at v 3 c.requires (omega arith) refl) (travel_at v 4 c.requires (omega arith) refl)
    (travel_at v 5 c.requires (omega arith) refl) (travel_at v 6 c.requires (omega arith) refl) k in
    let small : (xs t u : List ℕ) (x : ℕ) → Yields list_steps l xs t → t ≡ x ∷ u → x < 1048576 =
    λ xs t u x y e. item_small 1048576 l xs t u x all y e in
    search (rules, small)

pub overflow_cast-result : goal.overflow_cast-result
overflow_cast-result c =
    record {
      fits = omega (
        arith,
        within_most cause_range (get_or c.args.values 1 0)
            (fit_at ranges c.args.values travel_range 1 c.requires (omega arith)),
      );
    }
