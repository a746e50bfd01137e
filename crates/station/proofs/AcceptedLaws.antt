-- Lines given byte by byte to a controller that accepts each: no byte is turned away and no stop begins. Assumes
-- nothing.
use Prim.Native.Nat.{ℕ, ◌≤◌, ◌<◌}
use mathlib.Core.Bool.{Bool, true, false, not, ◌&&◌}
use mathlib.Core.List.{List, [], ◌∷◌, ◌++◌}
use mathlib.Core.Path.{◌≡◌, refl, sym, ap, subst, ◌∙◌}
use native.Mathlib.Omega.{arith}
use borrow.Author.Tests.{eq-eqb}
use lib.Dec.{eqb}
use lib.ListN.{length}
use Rattle.laws.proofs.Tests.{true_false, both}
use Rattle.machine.specs.State.{Machine, with_watch}
use Rattle.machine.specs.Commands.{number, does, awaits}
use Rattle.machine.specs.Steps.{ByteAnswer, outcome, byte_step}
use Rattle.machine.specs.Calls.{Call, byte, run, state, from, buffer}
use Rattle.machine.specs.Roles.{
  Role,
  other,
  distance_line,
  dwell_line,
  start_line,
  stop_order,
  reset_order,
  carry_order,
  role_by,
  stop_by,
}
use Rattle.machine.proofs.BitLaws.{status_moving}
use Rattle.host.specs.Writer.{has_line, line_of}
use Rattle.host.specs.RoundTrip.{calls_of, answers_to, gathers, answer_to, Obeys}
use Rattle.host.specs.declared.Request.{Request}
use Rattle.host.proofs.LineTrips.{line_trip}
use Rattle.host.proofs.MachineTrip.{calls_left}
use Rattle.station.specs.Executed.{written, onto, is_undisturbed}
use Rattle.station.specs.Taken.{lent}

-- ---- The answers to the bytes of a line

-- Each has number 0, and each but the last leaves no move that runs.
abbrev are_calm : List ByteAnswer → Bool
are_calm [] = true
are_calm (a ∷ []) = eqb a.number 0
are_calm (a ∷ b ∷ xs) = eqb a.number 0 && (not a.machine.move.moving && are_calm (b ∷ xs))

calm_gathers : (m : Machine) (l cs : List ℕ) (a : ByteAnswer) → m.move.moving ≡ false → a.number ≡ 0
    → are_calm (gathers m l cs ++ (a ∷ [])) ≡ true
calm_gathers m l [] a e n = eq-eqb a.number 0 n
calm_gathers m l (c ∷ []) a e n = (λ i. not (e i) && eq-eqb a.number 0 n i)
calm_gathers m l (c ∷ d ∷ cs) a e n = (λ i. not (e i) && calm_gathers m (l ++ (c ∷ [])) (d ∷ cs) a e n i)

-- ---- Bytes that are answered so

no_stop : (m : Machine) (r : Role) → m.move.moving ≡ false → stop_by m r ≡ false
no_stop m other e = refl
no_stop m (distance_line k s d) e = refl
no_stop m (dwell_line v) e = refl
no_stop m (start_line k w) e = refl
no_stop m stop_order e = status_moving m ∙ e
no_stop m reset_order e = refl
no_stop m carry_order e = refl

abbrev room : ℕ → List ℕ
room i = buffer

calm_head : (a : ByteAnswer) (xs : List ByteAnswer) → are_calm (a ∷ xs) ≡ true → eqb a.number 0 ≡ true
calm_head a [] e = e
calm_head a (b ∷ xs) e = (both _ _ e).0

not_moving : (t : Bool) → not t ≡ true → t ≡ false
not_moving true p = true_false false p refl
not_moving false p = refl

module _ (s : ℕ) (h : List Call) where
  -- One byte, with number 0 and no move that runs before it.
  one_byte : (g : List Call) (b : ℕ) (f : List Call) → eqb (byte_step (from (state s h) g) b buffer).number 0 ≡ true
      → (from (state s h) g).move.moving ≡ false → is_undisturbed s (byte b buffer ∷ (g ++ h)) f ≡ true
      → is_undisturbed s (g ++ h) (byte b buffer ∷ f) ≡ true
  unfolding is_undisturbed
  one_byte g b f n e q = (λ i. not (not (taken i)) && (not (no_stop (state s (g ++ h))
      (role_by (outcome (state s (g ++ h)) b buffer)) still i) && q i))
    where
      here : state s (g ++ h) ≡ from (state s h) g
      here = calls_left s room [] g h

      still : (state s (g ++ h)).move.moving ≡ false
      still = ap (λ (m : Machine). m.move.moving) here ∙ e

      taken : eqb (byte_step (state s (g ++ h)) b buffer).number 0 ≡ true
      taken = ap (λ (m : Machine). eqb (byte_step m b buffer).number 0) here ∙ n

  undisturbed_bytes : (g : List Call) (bs : List ℕ) (f : List Call)
      → are_calm (answers_to (state s h) g room bs) ≡ true
      → (from (state s h) g).move.moving ≡ false
      → is_undisturbed s (onto (lent bs) (g ++ h)) f ≡ true
      → is_undisturbed s (g ++ h) (lent bs ++ f) ≡ true
  unfolding lent onto run
  undisturbed_bytes g [] f c e q = q
  undisturbed_bytes g (b ∷ []) f c e q = one_byte g b f c e q
  undisturbed_bytes g (b ∷ d ∷ bs) f c e q =
      let k = both _ _ c in
      let l = both _ _ k.1 in
      one_byte g b (lent (d ∷ bs) ++ f) k.0 e
      (undisturbed_bytes (byte b buffer ∷ g) (d ∷ bs) f l.1 (not_moving _ l.0) q)

-- ---- A line that is accepted

-- The machine after a request that it accepts.
abbrev pub obeyed_by : Machine → Request → Machine
obeyed_by m r = awaits (with_watch (does m r.command) 0) r.command r.silent r.ident

room_enough : (i : ℕ) (n : ℕ) → i < n → 120 ≤ length (room i)
room_enough i n l = omega arith

onto_calls : (bs : List ℕ) (h : List Call) → onto (lent bs) h ≡ calls_of room bs h
unfolding onto lent
onto_calls [] h = refl
onto_calls (b ∷ bs) h = onto_calls bs (byte b buffer ∷ h)

lent_joined : (bs cs : List ℕ) → lent (bs ++ cs) ≡ lent bs ++ lent cs
unfolding lent
lent_joined [] cs = refl
lent_joined (b ∷ bs) cs = ap (λ (l : List Call). byte b buffer ∷ l) (lent_joined bs cs)

onto_joined : (f g h : List Call) → onto (f ++ g) h ≡ onto g (onto f h)
unfolding onto
onto_joined [] g h = refl
onto_joined (x ∷ f) g h = onto_joined f g (x ∷ h)

-- m, without a half-received line and with no move that runs, accepts each of rs, one after the other; only the last
-- may begin a move.
unfoldable pub Obedient : Machine → List Request → Type 0
Obedient m [] = 0 < 1
Obedient m (r ∷ rs) =
    (has_line r ≡ true) × ((m.move.moving ≡ false) × ((number m r.command ≡ 0) × Obedient (obeyed_by m r) rs))

unfoldable pub last_of : Machine → List Request → Machine
last_of m [] = m
last_of m (r ∷ rs) = last_of (obeyed_by m r) rs

pub record Ends (s : ℕ) (h : List Call) (rs : List Request) : Type 0 where
  pub undisturbed : is_undisturbed s h (lent (written rs)) ≡ true
  pub left : state s (onto (lent (written rs)) h) ≡ last_of (state s h) rs

-- One line of r.
module _ (s : ℕ) (h : List Call) (r : Request) (n : (state s h).line ≡ []) (f : has_line r ≡ true)
    (e : (state s h).move.moving ≡ false) (a : number (state s h) r.command ≡ 0) where
  trip : Obeys (state s h) r room
  trip = line_trip.obeys (state s h) r room n f (λ i l. room_enough i _ l)

  leaves : (answer_to (state s h) r).machine ≡ obeyed_by (state s h) r
  leaves = ap (λ (x : ByteAnswer). x.machine) (trip.obeyed a)

  calm : are_calm (answers_to (state s h) [] room (line_of r)) ≡ true
  calm =
      ap are_calm trip.answers
      ∙ calm_gathers (state s h) [] trip.chars (answer_to (state s h) r) e
      (ap (λ (x : ByteAnswer). x.number) (trip.obeyed a))

  here : state s (onto (lent (line_of r)) h) ≡ obeyed_by (state s h) r
  here =
      ap (state s) (onto_calls (line_of r) h)
      ∙ (calls_left s room (line_of r) [] h ∙ (trip.left ∙ leaves))

  empty : (state s (onto (lent (line_of r)) h)).line ≡ []
  empty = ap (λ (m : Machine). m.line) (here ∙ sym leaves) ∙ trip.clear

pub all_taken : (s : ℕ) (h : List Call) (rs : List Request) → (state s h).line ≡ [] → Obedient (state s h) rs
    → Ends s h rs
unfolding is_undisturbed lent onto written Obedient last_of run
all_taken s h [] n o = record { undisturbed = refl; left = refl }
all_taken s h (r ∷ rs) n o =
    let q = here s h r n o.0 o.1.0 o.1.1.0 in
    let next = all_taken s (onto (lent (line_of r)) h) rs (empty s h r n o.0 o.1.0 o.1.1.0)
    (subst (λ (m : Machine). Obedient m rs) (sym q) o.1.1.1) in
    record {
      undisturbed =
          ap (is_undisturbed s h) (lent_joined (line_of r) (written rs))
          ∙ undisturbed_bytes s h [] (line_of r) (lent (written rs)) (calm s h r n o.0 o.1.0 o.1.1.0)
          o.1.0 next.undisturbed;
      left = ap (λ (f : List Call). state s (onto f h)) (lent_joined (line_of r) (written rs))
          ∙ (ap (state s) (onto_joined (lent (line_of r)) (lent (written rs)) h)
          ∙ (next.left ∙ ap (λ (m : Machine). last_of m rs) q));
    }
