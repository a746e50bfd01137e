-- The line printed for a command, and 0D behind it, is its line: no character of a line is 0D, and no line that means a
-- command begins with a word that has an answer of its own. Assumes nothing.
use Rattle.std.proofs.Common.{Some, Ok, Err}
use Prim.Native.Nat.{ℕ, ◌-◌, ◌≤◌, ◌<◌}
use native.Mathlib.Omega.{arith}
use mathlib.Core.Bool.{Bool, true, false, cond, false≢true}
use mathlib.Core.List.{List, [], ◌∷◌, ◌++◌}
use mathlib.Core.Path.{◌≡◌, refl, sym, ap, ◌∙◌}
use borrow.Author.Tests.{ne_eqb}
use lib.Dec.{eqb}
use lib.ListN.{length, get_or, drop, length-append, length-drop, get_or-append}
use lib.Seq.{get_or-drop}
use Rattle.laws.proofs.Pick.{by_lt}
use Rattle.digits.specs.Digits.{end_byte}
use Rattle.line.specs.declared.command.Command.{Command}
use Rattle.host.specs.declared.Request.{Request}
use Rattle.host.specs.Writer.{has_line, line_of}
use Rattle.host.proofs.Lines.{NoEnd, request_lined}
use Rattle.host.proofs.LineTrips.{ninth_of}
use Rattle.receiver.specs.Receiver.{before}
use Rattle.text.specs.Parts.{part}
use Rattle.text.proofs.PartLaws.{behind_here}
use Rattle.sentences.specs.Places as K
use Rattle.sentences.specs.Sentences.{place_of}
use Rattle.phrases.specs.Meanings.{Meant, word, meant_at, meant_by}
use Rattle.phrases.specs.Phrases.{
  is_silent,
  unsilenced,
  has_ident,
  named_of,
  body_of,
  line_text,
  request_text,
  command_text,
  text_at,
  words_text,
}
use Rattle.phrases.specs.Promises.{request_in, SameLine}
use Rattle.phrases.proofs.FirstWordLaws.{named_first, silent_first, silent_place}
use Rattle.phrases.proofs.NoCommandLaws.{meant_none}

-- ---- What stands before the first 0D

before_end : (cs : List ℕ) → NoEnd cs → before (λ c. eqb c end_byte) (cs ++ (end_byte ∷ [])) ≡ cs
unfolding before
before_end [] h = refl
before_end (c ∷ cs) h = rw h.0 (ap (λ (x : List ℕ). c ∷ x) (before_end cs h.1))

part_end : (cs : List ℕ) → NoEnd cs → part end_byte 0 (cs ++ (end_byte ∷ [])) ≡ cs
part_end cs h =
    ap (before (λ c. eqb c end_byte)) (behind_here end_byte 0 (cs ++ (end_byte ∷ [])) refl) ∙ before_end cs h

-- ---- The line of a request

whole_line : (r : Request) → has_line r ≡ true → line_text r ++ (end_byte ∷ []) ≡ line_of r
whole_line r e =
    let s = request_lined r e in
    rw e (ap (λ (x : List ℕ). part end_byte 0 x ++ (end_byte ∷ [])) s.ended
    ∙ (ap (λ (x : List ℕ). x ++ (end_byte ∷ [])) (part_end s.chars s.no_end) ∙ sym s.ended))

-- ---- A line that means a command is taken as one

abbrev is_command : Meant → Bool
is_command (Ok c) = true
is_command (Err e) = false

module _ (l : List ℕ) (c : Command) (e : meant_by (body_of l) ≡ Ok c) where
  -- Its first word, which is not `silent`, stands before `opening`.
  early : is_silent l ≡ false → K.opening ≤ place_of (word 0 l) → ⊥
  unfolding meant_by
  early s h =
      let p : word 0 (body_of l) ≡ word 0 l =
      named_first (unsilenced l) ∙ ap (λ (t : Bool). word 0 (cond t (drop 7 l) l)) s in
      false≢true
      (ap is_command (sym (meant_none (place_of (word 0 l)) h (body_of l))
      ∙ (ap (λ (w : List ℕ). meant_at (place_of w) (body_of l)) (sym p) ∙ e)))

  placed : (k : ℕ) → k < K.opening → text_at k l ≡ command_text l
  placed k h =
      rw (
        ne_eqb k 19 (λ (q : k ≡ 19). omega arith),
        ne_eqb k 20 (λ (q : k ≡ 20). omega arith),
        ne_eqb k 21 (λ (q : k ≡ 21). omega arith),
        ne_eqb k 22 (λ (q : k ≡ 22). omega arith),
      )

  taken : (t : Bool) → is_silent l ≡ t → text_at (place_of (word 0 l)) l ≡ command_text l
  taken true s = ap (λ (k : ℕ). text_at k l) (ap place_of (silent_first l s) ∙ silent_place)
  taken false s =
      by_lt {A = ℕ} (λ (x : ℕ). text_at (place_of (word 0 l)) l ≡ command_text l) (place_of (word 0 l)) 19 0 0
      (placed (place_of (word 0 l))) (λ h. absurd (early s h))

  commanded : words_text l ≡ command_text l
  unfolding words_text
  commanded = taken (is_silent l) refl

-- The command's request is the one in the line.
meant_line : (l : List ℕ) (c : Command) → meant_by (body_of l) ≡ Ok c → command_text l ≡ line_text (request_in l c)
unfolding command_text
meant_line l c e = ap (request_text (is_silent l) (named_of (unsilenced l)).ident l) e

said_line : (l : List ℕ) (c : Command) → meant_by (body_of l) ≡ Ok c → has_line (request_in l c) ≡ true
    → words_text l ++ (end_byte ∷ []) ≡ line_of (request_in l c)
said_line l c e h =
    ap (λ (x : List ℕ). x ++ (end_byte ∷ [])) (commanded l c e ∙ meant_line l c e) ∙ whole_line (request_in l c) h

-- ---- The identification

-- It is the last character, `silent ` before the form or not.
last_typed : (l : List ℕ) → has_ident (unsilenced l) ≡ true
    → get_or (unsilenced l) (length (unsilenced l) - 1) 0 ≡ get_or l (length l - 1) 0
last_typed l = when (is_silent l)
  where
    some : (u : List ℕ) → has_ident u ≡ true → 5 ≤ length u
    some u = by_lt (λ (t : Bool). t ≡ true → 5 ≤ length u) (length u) 5 _ _ (λ _ e. absurd (false≢true e)) (λ h _. h)

    when : (t : Bool) → has_ident (cond t (drop 7 l) l) ≡ true
        → get_or (cond t (drop 7 l) l) (length (cond t (drop 7 l) l) - 1) 0 ≡ get_or l (length l - 1) 0
    when true e =
        let n = length-drop 7 l in
        let h = some (drop 7 l) e in
        get_or-drop 7 l (length (drop 7 l) - 1) 0 ∙ ap (λ (k : ℕ). get_or l k 0) (omega (arith, n, h))
    when false e = refl

named_line : (l : List ℕ) (c : Command) → meant_by (body_of l) ≡ Ok c → has_line (request_in l c) ≡ true
    → has_ident (unsilenced l) ≡ true → get_or (words_text l) 8 0 ≡ get_or l (length l - 1) 0
named_line l c e h t =
    let x = get_or (unsilenced l) (length (unsilenced l) - 1) 0 in
    let i : (request_in l c).ident ≡ Some x = rw t in
    let n = ninth_of (request_in l c) x h i in
    let s = said_line l c e h in
    let k : 8 < length (words_text l) =
    omega (arith, ap length s, n.0, length-append (words_text l) (end_byte ∷ [])) in
    sym (get_or-append (words_text l) (end_byte ∷ []) 0 8 k)
    ∙ (ap (λ (y : List ℕ). get_or y 8 0) s ∙ (n.1 ∙ last_typed l t))

pub same_line : SameLine
same_line = record { line = whole_line; said = said_line; named = named_line }
