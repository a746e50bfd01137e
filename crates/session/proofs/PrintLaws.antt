-- Laws of what is printed: a reply with a line feed for each 0D, over the front of the lent buffer. Assumes nothing.
use Prim.Native.Nat.{ℕ, suc, ◌+◌, ◌≤◌, ◌<◌}
use native.Mathlib.Numerals.{add-one}
use native.Mathlib.Omega.{arith}
use mathlib.Core.Bool.{Bool, cond}
use mathlib.Core.List.{List, [], ◌∷◌, ◌++◌, append-nil}
use mathlib.Core.Path.{◌≡◌, refl, sym, ap, ◌∙◌}
use borrow.Author.Tests.{le-ltb}
use lib.ListN.{length, get_or, take, drop, set}
use lib.Seq.{take-suc, take-append_seam, drop-append_seam, get_or-drop, length-take-le, take-length, drop-length}
use Rattle.laws.proofs.Pick.{by_bool}
use Rattle.block.specs.Block.{over}
use Rattle.block.proofs.Buffers.{put_front}
use Rattle.block.proofs.Places.{put_snoc}
use Rattle.receiver.specs.Receiver.{receive}
use Rattle.reply.proofs.Replies.{reply_most, refusal_most}
use Rattle.machine.specs.State.{Machine}
use Rattle.machine.specs.Replies.{told_of, refusal, reply_to}
use Rattle.machine.specs.Steps as steps
use Rattle.machine.specs.Steps.{
  Outcome,
  untaken,
  gathered,
  refused,
  accepted,
  outcome_of,
  outcome,
  answered,
  byte_step,
  buffer_after,
}
use Rattle.controller.specs.declared.state.ByteAnswer.{ByteAnswer}
use Rattle.controller.specs.Held.{held_byte}
use Rattle.machine.specs.Calls.{buffer}
use Rattle.session.specs.Session.{shown_byte, shown, Passed}

-- ---- byte by byte

pub shown_length : (l : List ℕ) → length (shown l) ≡ length l
shown_length [] = refl
shown_length (c ∷ l) = ap suc (shown_length l)

shown_append : (a b : List ℕ) → shown (a ++ b) ≡ shown a ++ shown b
shown_append [] b = refl
shown_append (c ∷ a) b = ap (λ (l : List ℕ). shown_byte c ∷ l) (shown_append a b)

seam_read : (s t : List ℕ) → get_or (s ++ t) (length s) 0 ≡ get_or t 0 0
seam_read [] t = refl
seam_read (x ∷ s) t = seam_read s t

-- What stands behind s is as it was.
over_read : (s d : List ℕ) → get_or (over s d) (length s) 0 ≡ get_or d (length s) 0
unfolding over
over_read s d =
    let e : length s + 0 ≡ length s = omega arith in
    seam_read s (drop (length s) d) ∙ get_or-drop (length s) d 0 0 ∙ ap (λ (k : ℕ). get_or d k 0) e

pub show_none : (d : List ℕ) → d ≡ over (shown (take 0 d)) d
unfolding over
show_none d = refl

module _ (i : ℕ) (d buf : List ℕ) (h : i < length d) (e : buf ≡ over (shown (take i d)) d) where
  reach : length (shown (take i d)) ≡ i
  reach = shown_length (take i d) ∙ length-take-le i d (omega arith)

  byte_read : get_or buf i 0 ≡ get_or d i 0
  byte_read =
      ap (λ (x : List ℕ). get_or x i 0) e
      ∙ (λ j. get_or (over (shown (take i d)) d) (sym reach j) 0)
      ∙ over_read (shown (take i d)) d
      ∙ (λ j. get_or d (reach j) 0)

  text_next : shown (take i d) ++ (shown_byte (get_or d i 0) ∷ []) ≡ shown (take (i + 1) d)
  text_next = rw (add-one i, take-suc d i 0 h) (sym (shown_append (take i d) (get_or d i 0 ∷ [])))

  pub show_next : (x : ℕ) → x ≡ shown_byte (get_or buf i 0) → set buf i x ≡ over (shown (take (i + 1) d)) d
  show_next x p =
      let r : 0 + length (shown (take i d)) ≡ i = omega (arith, reach) in
      (λ j. set ((e ∙ sym (put_front (shown (take i d)) d)) j) (sym r j) ((p ∙ ap shown_byte byte_read) j))
      ∙ put_snoc 0 (shown (take i d)) d (shown_byte (get_or d i 0)) (omega (arith, reach))
      ∙ put_front (shown (take i d) ++ (shown_byte (get_or d i 0) ∷ [])) d
      ∙ ap (λ (s : List ℕ). over s d) text_next

-- All of a front part as it is printed, and what stands behind it.
pub show_all : (n i : ℕ) (d items : List ℕ) → n ≤ length d → i ≡ length (take n d)
    → items ≡ over (shown (take i (take n d))) (take n d)
    → items ++ drop n d ≡ over (shown (take n d)) d
unfolding over
show_all n i d items h k e =
    ap (λ (x : List ℕ). x ++ drop n d) all ∙ rw (shown_length (take n d), length-take-le n d h)
  where
    all : items ≡ shown (take n d)
    all =
        e
        ∙ (rw (k, take-length (take n d))
        (rw (shown_length (take n d), drop-length (take n d)) (append-nil (shown (take n d)))))

-- ---- the reply to a byte

-- A buffer of 120 bytes or more: what it holds plays no part.
pub any_buffer : (m : Machine) (b : ℕ) (d : List ℕ) → 120 ≤ length d → byte_step m b d ≡ byte_step m b buffer
any_buffer m b d h =
    ap (λ (t : Bool). answered m b (cond t untaken (outcome_of m (receive m.line b).heard)))
    (le-ltb (length d) 120 h)

answer_most : (m : Machine) (b : ℕ) (o : Outcome) → length (answered m b o).reply ≤ 120
answer_most m b untaken = omega arith
answer_most m b gathered = omega arith
answer_most m b (refused n silent ident) =
    by_bool (λ (l : List ℕ). length l ≤ 120) silent [] (refusal m n ident) (λ e. omega arith)
    (λ e. refusal_most m.switch n ident)
answer_most m b (accepted c digits silent ident) =
    by_bool (λ (l : List ℕ). length l ≤ 120) silent [] (reply_to m c digits ident) (λ e. omega arith)
    (λ e. reply_most (told_of m) c digits ident)

pub reply_size : (m : Machine) (b : ℕ) (d : List ℕ) → length (byte_step m b d).reply ≤ 120
reply_size m b d = answer_most m b (outcome m b d)

pub over_shown : (s d : List ℕ) → over (shown (take (length s) (over s d))) (over s d) ≡ over (shown s) d
unfolding over
over_shown s d = rw (take-append_seam s (drop (length s) d), shown_length s, drop-append_seam s (drop (length s) d))

pub sent_is : (m : Machine) (b : ℕ) (d : List ℕ) (a : ByteAnswer) (x y : List ℕ) → 120 ≤ length d
    → a ≡ held_byte (byte_step m b d) → x ≡ buffer_after (byte_step m b d) d → y ≡ over (shown (take a.length x)) x
    → Passed (record { controller = a.controller; length = a.length; number = a.number }) y d (byte_step m b buffer)
sent_is m b d a x y h e p q = (
  λ i. record {
    controller = (whole i).controller;
    length = (ap (λ (z : ByteAnswer). z.length) whole ∙ sym (shown_length reply)) i;
    number = (whole i).number;
  },
  q ∙ (λ i. over (shown (take (whole i).length (laid i))) (laid i)) ∙ over_shown reply d,
)
  where
    reply : List ℕ
    reply = (byte_step m b buffer).reply

    whole : a ≡ held_byte (byte_step m b buffer)
    whole = e ∙ ap held_byte (any_buffer m b d h)

    laid : x ≡ over reply d
    laid = p ∙ ap (λ (z : steps.ByteAnswer). over z.reply d) (any_buffer m b d h)
