-- The round trip of lines over the receiver: the bytes that the writer makes of a request that has a line, received one
-- after the other with nothing received before, are characters up to the 0D, and at the 0D that very line: the command,
-- whether it is silent, and the identification. Assumes nothing.
use Rattle.receiver.specs.declared.Line.{Line}
use Rattle.std.proofs.Common.{Option, None}
use Prim.Native.Nat.{ℕ, ◌-◌, ◌≤◌}
use native.Mathlib.Omega.{arith}
use mathlib.Core.Bool.{Bool, true, false, cond, not}
use mathlib.Core.List.{List, [], ◌∷◌, ◌++◌, append_assoc, append-nil}
use mathlib.Core.Path.{◌≡◌, refl, ap, ◌∙◌}
use borrow.Author.Tests.{ltb-false}
use lib.Dec.{ltb}
use lib.ListN.{length, length-append}
use Rattle.laws.proofs.Pick.{by_bool}
use Rattle.block.specs.Block.{over, front_of}
use Rattle.block.proofs.Blocks.{block_most}
use Rattle.block.proofs.Buffers.{front_over}
use Rattle.line.specs.Codes.{is_query}
use Rattle.receiver.specs.Receiver.{heard_line}
use Rattle.host.specs.declared.Request.{Request}
use Rattle.host.specs.Writer.{digits_of, has_line, query_of, line_of, line, refused, written_of, buffer_of}
use Rattle.host.specs.RoundTrip.{heard_all, ended_after, heard_as}
use Rattle.host.proofs.Lines.{NoEnd, request_lined}

-- ---- characters up to the 0D

whole_heard : (l cs : List ℕ) → NoEnd cs → heard_all l (cs ++ (13 ∷ [])) ≡ ended_after (length cs) (heard_line (l ++ cs))
whole_heard l [] h = rw append-nil
whole_heard l (c ∷ cs) h =
    rw h.0 (ap (λ (x : List (Option Line)). None ∷ x)
    (whole_heard (l ++ (c ∷ [])) cs h.1
    ∙ ap (λ (x : List ℕ). ended_after (length cs) (heard_line x)) (append_assoc l (c ∷ []) cs)))

pub round_trip : (r : Request) → has_line r ≡ true
    → heard_all [] (line_of r) ≡ ended_after (length (line_of r) - 1) (heard_as r (digits_of r.command))
round_trip r e =
    let l = request_lined r e in
    let n : length (line_of r) - 1 ≡ length l.chars =
    omega (arith, ap length l.ended, length-append l.chars (13 ∷ [])) in
    rw (n, l.ended) (whole_heard [] l.chars l.no_end ∙ ap (ended_after (length l.chars)) l.heard)

-- ---- the bytes in the buffer

line_most : (r : Request) → length (line_of r) ≤ 10
unfolding line_of
line_most r =
    by_bool (λ (s : List ℕ). length s ≤ 10) (is_query r.command) (query_of r.silent) _ (λ _. omega arith)
    (λ _. block_most _)

-- Where a line is written, the front part of the buffer is the line.
pub front_line : (r : Request) (d : List ℕ) (n : ℕ) → written_of r d ≡ line n
    → (has_line r ≡ true) × (front_of (buffer_of r d) n ≡ line_of r)
unfolding written_of buffer_of
front_line r d n = roomy (ltb (length d) 10) refl
  where
    other : {P : Type 0} (k : ℕ) → refused k ≡ line n → P
    other k e = let z : ◌≡◌ {A = ℕ} 0 1 = cc in absurd (omega arith)

    lined : (t : Bool) → has_line r ≡ t → 10 ≤ length d → cond (not t) (refused 19) (line (length (line_of r))) ≡ line n
        → (t ≡ true) × (front_of (cond (not t) d (over (line_of r) d)) n ≡ line_of r)
    lined true p h e =
        let size : length (line_of r) ≡ n = cc in
        (refl, rw (← size) (front_over (line_of r) d (omega (arith, line_most r))))
    lined false p h e = other 19 e

    roomy : (t : Bool) → ltb (length d) 10 ≡ t
        → cond t (refused 18) (cond (not (has_line r)) (refused 19) (line (length (line_of r)))) ≡ line n
        → (has_line r ≡ true) × (front_of (cond t d (cond (not (has_line r)) d (over (line_of r) d))) n ≡ line_of r)
    roomy true p e = other 18 e
    roomy false p e = lined (has_line r) refl (ltb-false (length d) 10 p) e
