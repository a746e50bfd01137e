-- A byte that ends a line Q C: its number, its reply and the machine that it leaves. Assumes nothing.
use Rattle.std.proofs.Common.{Option, None}
use Prim.Native.Nat.{ℕ}
use mathlib.Core.Bool.{Bool, true, false, cond, not, ◌&&◌, ◌||◌, or-false}
use mathlib.Core.List.{List, []}
use mathlib.Core.Path.{◌≡◌, refl, sym, ap, ◌∙◌}
use borrow.Author.Tests.{eq-eqb, ne_eqb}
use lib.Dec.{ltb, leb, eqb}
use Rattle.laws.specs.Axes.{some}
use Rattle.laws.proofs.Pick.{by_bool, by_eq}
use Rattle.line.specs.declared.command.Command.TheVariants as C
use Rattle.reply.specs.Reply.{letter_u, letter_s, block_for, reply_of, refusal_of}
use Rattle.machine.specs.State.{Machine, mark, with_watch, with_flags}
use Rattle.machine.specs.Stops.{blocked, sensor_active}
use Rattle.machine.specs.Starts.{outside, final, can_carry_on, open_plan, notes}
use Rattle.machine.specs.Commands.{number, turned}
use Rattle.machine.specs.Steps.{
  Outcome,
  accepted,
  refused,
  outcome_of,
  outcome,
  untaken,
  answered,
  heard_by,
  byte_step,
}
use Rattle.machine.specs.Carry.{carry_reply, CarryLine}

module _ (m : Machine) where
  -- A fact about the number, by the six that turn the line away, and 0.
  by_carry : (P : ℕ → Type 0) → P 11 → P 26 → P 12 → P 13 → P 16 → P 17 → P 0 → P (number m (C.Order 12))
  by_carry P p11 p26 p12 p13 p16 p17 p0 =
      by_bool P (m.move.moving && true) 11 _ (λ _. p11)
      λ _. by_bool P (not (can_carry_on m)) 26 _ (λ _. p26)
      λ _. by_bool P m.flags.emergency 12 _ (λ _. p12)
      λ _. by_bool P (sensor_active m) 13 _ (λ _. p13)
      λ _. by_bool P (blocked m (open_plan m)) 16 _ (λ _. p16)
      λ _. by_bool P (some (λ k. outside (final m (open_plan m) k))) 17 _ (λ _. p17) (λ _. p0)

  -- None is under 8: each is answered with the identification.
  named : (number m (C.Order 12) ≡ 0 → ⊥) → ltb (number m (C.Order 12)) 8 ≡ false
  named =
      by_carry (λ (n : ℕ). (n ≡ 0 → ⊥) → ltb n 8 ≡ false) (λ _. refl) (λ _. refl) (λ _. refl) (λ _. refl) (λ _. refl)
      (λ _. refl) (λ q. absurd (q refl))

  -- Each zeroes the watch count, and none is 14.
  late : (n : ℕ) → leb 10 n ≡ true → eqb n 14 ≡ false → (n ≡ 0 → ⊥) → turned m n ≡ with_watch m 0
  late n e f q =
      ap (λ (t : Bool). cond t (notes (with_watch m 0) n) m) e
      ∙ ((λ i. with_flags (with_watch m 0) (mark m.flags 2 (m.flags.wrong_master || f i)))
      ∙ λ i. with_flags (with_watch m 0) (mark m.flags 2 (or-false m.flags.wrong_master i)))

  pub zeroes : (number m (C.Order 12) ≡ 0 → ⊥) → turned m (number m (C.Order 12)) ≡ with_watch m 0
  zeroes =
      by_carry (λ (n : ℕ). (n ≡ 0 → ⊥) → turned m n ≡ with_watch m 0) (late 11 refl refl) (late 26 refl refl)
      (late 12 refl refl) (late 13 refl refl) (late 16 refl refl) (late 17 refl refl) (λ q. absurd (q refl))

-- What comes of the byte, by whether a number turns the line away.
abbrev carries : Machine → Bool → Option ℕ → ℕ → Bool → Outcome
carries m silent ident digits taken =
    cond taken (accepted (C.Order 12) digits silent ident) (refused (number m (C.Order 12)) silent ident)

module _ (m : Machine) (b : ℕ) (buffer : List ℕ) (l : CarryLine m b buffer) where
  outcome_is : outcome m b buffer ≡ carries m l.silent l.ident l.digits (eqb (number m (C.Order 12)) 0)
  outcome_is = λ i. cond (l.lent i) untaken (outcome_of m (l.heard i))

  pub told_number : (byte_step m b buffer).number ≡ number m (C.Order 12)
  told_number =
      ap (λ (o : Outcome). (answered m b o).number) outcome_is
      ∙ by_eq (λ (o : Outcome). (answered m b o).number ≡ number m (C.Order 12)) (number m (C.Order 12)) 0 _ _
      (λ (e : number m (C.Order 12) ≡ 0). sym e) (λ e. refl)

  pub told_reply : (byte_step m b buffer).reply
      ≡ cond l.silent [] (carry_reply m.switch (number m (C.Order 12)) l.digits l.ident)
  unfolding reply_of refusal_of
  told_reply =
      ap (λ (o : Outcome). (answered m b o).reply) outcome_is
      ∙ by_eq (λ (o : Outcome). (answered m b o).reply
      ≡ cond l.silent [] (carry_reply m.switch (number m (C.Order 12)) l.digits l.ident))
      (number m (C.Order 12)) 0 _ _
      (λ (e : number m (C.Order 12) ≡ 0). λ i. cond l.silent [] (cond (sym (eq-eqb _ 0 e) i)
      (block_for m.switch letter_s l.digits l.ident)
      (block_for m.switch letter_u (number m (C.Order 12)) l.ident)))
      (λ (e : number m (C.Order 12) ≡ 0 → ⊥). λ i. cond l.silent [] (cond (sym (ne_eqb _ 0 e) i)
      (block_for m.switch letter_s l.digits l.ident)
      (block_for m.switch letter_u (number m (C.Order 12)) (cond (named m e i) None l.ident))))

  by : {t : Bool} → eqb (number m (C.Order 12)) 0 ≡ t
      → carries m l.silent l.ident l.digits (eqb (number m (C.Order 12)) 0)
      ≡ carries m l.silent l.ident l.digits t
  by e = ap (carries m l.silent l.ident l.digits) e

  pub taken_is : number m (C.Order 12) ≡ 0
      → (byte_step m b buffer).machine ≡ (answered m b (accepted (C.Order 12) l.digits l.silent l.ident)).machine
  taken_is e =
      ap (λ (o : Outcome). (answered m b o).machine) (outcome_is ∙ by (eq-eqb _ 0 e))

  pub refused_is : (number m (C.Order 12) ≡ 0 → ⊥)
      → (byte_step m b buffer).machine ≡ turned (heard_by m b) (number m (C.Order 12))
  refused_is e =
      ap (λ (o : Outcome). (answered m b o).machine) (outcome_is ∙ by (ne_eqb _ 0 e))
