-- Laws of where the input stands: a step on what is held is the step at the place of every bench so held.
-- Assumes nothing.
use Rattle.std.proofs.Common.{Option}
use Prim.Native.Nat.{ℕ, ◌≤◌, ◌<◌}
use native.Mathlib.Omega.{arith}
use mathlib.Core.Bool.{Bool, true, false}
use mathlib.Core.List.{List, [], ◌∷◌, ◌++◌}
use mathlib.Core.Logic.{◌⊎◌, inl, inr}
use mathlib.Core.Path.{◌≡◌, refl, sym, ap, subst, ◌∙◌}
use lib.ListN.{length}
use Rattle.laws.proofs.Pick.{on_lt, on_ge}
use Rattle.block.proofs.Buffers.{over_nil}
use Rattle.machine.specs.State.{Machine}
use Rattle.controller.specs.declared.state.Controller.{Controller}
use Rattle.controller.specs.Held.{held}
use Rattle.session.specs.declared.asked.Ticks.{Ticks}
use Rattle.session.specs.declared.state.Place as declared
use Rattle.session.specs.declared.state.Place.TheVariants.{Start, Sending, Asking}
use Rattle.session.specs.declared.state.Session.{Session}
use Rattle.session.specs.declared.state.Taken.{Taken}
use Rattle.session.specs.Asked.{asked_of}
use Rattle.session.specs.Kept.{keeping, Keeping}
use Rattle.session.specs.Session.{
  Place,
  starting,
  sending,
  asking,
  Answer,
  sends,
  keeps,
  asks,
  ended_at,
  character_at,
  rests,
  untaken,
  finished,
  held_place,
  kept_in,
  held_bench,
  unless,
  Told,
  untaken_of,
  kept_of,
}
use Rattle.session.specs.Stretch.{keeps_of}
use Rattle.session.proofs.StretchLaws.{kept_passed, sent_passed}

-- An arm for two places.
not_asking : {p : declared.Place} → (p ≡ Start) ⊎ (p ≡ Sending) → p ≡ Asking → ⊥
not_asking (inl a) z = cc
not_asking (inr a) z = cc

not_start : {p : declared.Place} → (p ≡ Sending) ⊎ (p ≡ Asking) → p ≡ Start → ⊥
not_start (inl a) z = cc
not_start (inr a) z = cc

-- What is known of a bench m, p that the session s holds.
module _ (m : Machine) (p : Place) (s : Session) (e : held_bench (record { machine = m; place = p }) ≡ s) where
  pub at_controller : held m ≡ s.controller
  at_controller = ap (λ (x : Session). x.controller) e

  at_kept : keeping (kept_in p) ≡ s.kept
  at_kept = ap (λ (x : Session). x.kept) e

  at_place : held_place p ≡ s.place
  at_place = ap (λ (x : Session). x.place) e

  pub asked_ended : (a : Option Ticks) → s.place ≡ Asking → Keeping s.kept (λ l. a ≡ asked_of l) → asks m a ≡ ended_at m p
  asked_ended a q k = each p at_kept (at_place ∙ q)
    where
      each : (p : Place) → keeping (kept_in p) ≡ s.kept → held_place p ≡ Asking → asks m a ≡ ended_at m p
      each starting y z = let n : ◌≡◌ {A = ℕ} 0 1 = cc in absurd (omega arith)
      each sending y z = let n : ◌≡◌ {A = ℕ} 0 1 = cc in absurd (omega arith)
      each (asking l) y z = ap (asks m) (k l y)

  pub sent_ended : (s.place ≡ Start) ⊎ (s.place ≡ Sending) → sends m 13 starting ≡ ended_at m p
  sent_ended n = each p (λ z. not_asking n (sym at_place ∙ z))
    where
      each : (p : Place) → (held_place p ≡ Asking → ⊥) → sends m 13 starting ≡ ended_at m p
      each starting z = refl
      each sending z = refl
      each (asking l) z = absurd (z refl)

  kept_at : (b : ℕ) (t : Bool) → t ≡ keeps_of s.place b → keeps_of (held_place p) b ≡ t
  kept_at b t e = ap (λ (x : declared.Place). keeps_of x b) at_place ∙ sym e

  pub character_kept : (b : ℕ) (t : Bool) → t ≡ keeps_of s.place b → t ≡ true
      → keeps m (kept_in p ++ (b ∷ [])) ≡ character_at m p b
  character_kept b t e z = sym (kept_passed m b p (kept_at b t e ∙ z))

  pub character_sent : (b : ℕ) (t : Bool) → t ≡ keeps_of s.place b → t ≡ false → sends m b sending ≡ character_at m p b
  character_sent b t e z = sym (sent_passed m b p (kept_at b t e ∙ z))

  -- A character that is kept prints nothing.
  pub keeps_told : (b : ℕ) (r : Taken) (d : List ℕ)
      → Keeping s.kept (λ l. r ≡ kept_of s.controller (l ++ (b ∷ [])))
      → Told r d d (keeps m (kept_in p ++ (b ∷ [])))
  keeps_told b r d k = (
    k (kept_in p) at_kept ∙ ap (λ (c : Controller). kept_of c (kept_in p ++ (b ∷ []))) (sym at_controller),
    sym (over_nil d),
  )

  -- Nothing is altered and nothing printed; n is the number told.
  at_rest : (n : ℕ) (d : List ℕ)
      → Told (record { session = s; length = 0; number = n }) d d
      (record { bench = record { machine = m; place = p }; printed = []; number = n })
  at_rest n d = (λ i. record { session = sym e i; length = 0; number = n }, sym (over_nil d))

  pub rests_told : (d : List ℕ)
      → Told (record { session = s; length = 0; number = 0 }) d d (rests (record { machine = m; place = p }))
  rests_told = at_rest 0

  pub start_finished : s.place ≡ Start
      → rests (record { machine = m; place = p }) ≡ finished (record { machine = m; place = p })
  start_finished q = each p (at_place ∙ q)
    where
      each : (p : Place) → held_place p ≡ Start
          → rests (record { machine = m; place = p }) ≡ finished (record { machine = m; place = p })
      each starting z = refl
      each sending z = let n : ◌≡◌ {A = ℕ} 0 1 = cc in absurd (omega arith)
      each (asking l) z = let n : ◌≡◌ {A = ℕ} 0 1 = cc in absurd (omega arith)

  pub ended_finished : (s.place ≡ Sending) ⊎ (s.place ≡ Asking) → ended_at m p ≡ finished (record { machine = m; place = p })
  ended_finished n = each p (λ z. not_start n (sym at_place ∙ z))
    where
      each : (p : Place) → (held_place p ≡ Start → ⊥) → ended_at m p ≡ finished (record { machine = m; place = p })
      each starting z = absurd (z refl)
      each sending z = refl
      each (asking l) z = refl

  -- A buffer under 120 bytes, or not.
  pub short_told : (r : Taken) (d : List ℕ) (a : Answer) → length d < 120 → r ≡ untaken_of s
      → Told r d d (unless d (record { machine = m; place = p }) a)
  short_told r d a h q =
      subst (λ (y : Answer). Told r d d y)
      (on_lt (length d) 120 (untaken (record { machine = m; place = p })) _ a h refl)
      (q ∙ (at_rest 2 d).0, (at_rest 2 d).1)

  pub long_told : (r : Taken) (x d : List ℕ) (a b : Answer) → 120 ≤ length d → a ≡ b
      → Told r x d a → Told r x d (unless d (record { machine = m; place = p }) b)
  long_told r x d a b h e t = subst (λ (y : Answer). Told r x d y) (on_ge (length d) 120 a _ b h e) t
