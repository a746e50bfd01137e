-- Every reply block is taken for one and told in words: a block's bytes before 0D begin with a letter and a switch
-- digit, and are 8 or 9. Their first word has more than three characters. Assumes nothing.
use Rattle.std.proofs.Common.{Option, None, Some}
use Prim.Native.Nat.{ℕ, suc, ◌+◌, ◌/◌, ◌%◌, ◌≤◌, ◌<◌}
use native.Mathlib.Omega.{arith}
use mathlib.Core.Bool.{true, false, false≢true}
use mathlib.Core.List.{List, [], ◌∷◌, ◌++◌}
use mathlib.Core.Path.{◌≡◌, refl, sym, ap, subst, ◌∙◌}
use borrow.Author.Tests.{ne_eqb}
use lib.Dec.{eqb}
use lib.ListN.{length, take, length-append}
use lib.Seq.{take-append_seam}
use Rattle.laws.proofs.Pick.{by_lt}
use Rattle.digits.specs.Digits.{digit_of, capital_of, six_of}
use Rattle.digits.proofs.Laws.{digit_capital}
use Rattle.block.specs.Block.{block_of}
use Rattle.line.specs.Line.{is_ident}
use Rattle.receiver.specs.Receiver.{before, before_end}
use Rattle.reply.specs.Reply.{block_for}
use Rattle.text.specs.Parts.{behind, part}
use Rattle.reader.specs.Reader as F
use Rattle.reader.specs.Reader.{Figures, read_of}
use Rattle.reader.specs.Blocks.{Framed, InRange, spelling, Says, Spelt}
use Rattle.reader.proofs.OnlyBlocks.{blocks_read}
use Rattle.readout.specs.Readout.{is_letter, is_block, figure_text, block_text}
use Rattle.readout.specs.Promises.{is_read, ToldBy, RepliesTold}

-- ---- no byte before the last is 0D, and none of the first eight a space

capital_other : (v b : ℕ) → b < 48 → eqb (capital_of v) b ≡ false
capital_other v b l =
    by_lt (λ (x : ℕ). eqb x b ≡ false) (v % 16) 10 _ _
    (λ h. ne_eqb (48 + v % 16) b (λ (e : 48 + v % 16 ≡ b). omega (arith, e)))
    (λ h. ne_eqb (55 + v % 16) b (λ (e : 55 + v % 16 ≡ b). omega (arith, e)))

capital_no_end : (v : ℕ) → eqb (capital_of v) 13 ≡ false
capital_no_end v = capital_other v 13 (omega arith)

capital_no_space : (v : ℕ) → eqb (capital_of v) 32 ≡ false
capital_no_space v = capital_other v 32 (omega arith)

ident_no_end : (c : ℕ) → is_ident (digit_of c) ≡ true → eqb c 13 ≡ false
ident_no_end c h =
    ne_eqb c 13 (λ (e : c ≡ 13). false≢true (ap (λ (x : ℕ). is_ident (digit_of x)) (sym e) ∙ h))

letter_no_end : (c : ℕ) → is_letter c ≡ true → eqb c 13 ≡ false
letter_no_end c h = ne_eqb c 13 (λ (e : c ≡ 13). false≢true (ap is_letter (sym e) ∙ h))

letter_no_space : (c : ℕ) → is_letter c ≡ true → eqb c 32 ≡ false
letter_no_space c h = ne_eqb c 32 (λ (e : c ≡ 32). false≢true (ap is_letter (sym e) ∙ h))

-- A letter and three digits without a space are more than a word of three.
four_long : (a b c d : ℕ) (l : List ℕ) → is_letter a ≡ true
    → length (part 32 0 (a ∷ capital_of b ∷ capital_of c ∷ capital_of d ∷ l)) ≡ 3 → ⊥
unfolding before behind
four_long a b c d l h e =
    let n : suc (suc (suc (suc (length (before (λ (x : ℕ). eqb x 32) l))))) ≡ 3 =
    rw (letter_no_space a h, capital_no_space b, capital_no_space c, capital_no_space d) at e in
    omega (arith, n)

-- ---- a block's bytes before 0D

block_first : (letter switch n : ℕ) (r : List ℕ) → is_letter letter ≡ true
    → before_end (letter ∷ capital_of switch ∷ (six_of n ++ r)) ≡ letter ∷ capital_of switch ∷ (six_of n ++ before_end r)
unfolding six_of before
block_first letter switch n r a =
    rw (
      letter_no_end letter a,
      capital_no_end switch,
      capital_no_end (n / 1048576 % 16),
      capital_no_end (n / 65536 % 16),
      capital_no_end (n / 4096 % 16),
      capital_no_end (n / 256 % 16),
      capital_no_end (n / 16 % 16),
      capital_no_end (n % 16),
    )

-- The line that the bytes are with 0D behind it.
record Ended (s : List ℕ) : Type 0 where
  line : List ℕ
  whole : line ++ (13 ∷ []) ≡ s
  first : before_end s ≡ line
  taken : is_block line ≡ true
  short : length line ≤ 9
  long : length (part 32 0 line) ≡ 3 → ⊥

block_ended : (letter switch n : ℕ) (ident : Option ℕ) → is_letter letter ≡ true → Framed switch ident
    → Ended (block_for switch letter n ident)
unfolding block_of six_of before
block_ended letter switch n None a f = record {
  line = letter ∷ capital_of switch ∷ six_of n;
  whole = refl;
  first = block_first letter switch n (13 ∷ []) a;
  taken = rw (a, digit_capital switch f.digit);
  short = omega arith;
  long = four_long letter switch (n / 1048576 % 16) (n / 65536 % 16) _ a;
}
block_ended letter switch n (Some c) a f = record {
  line = letter ∷ capital_of switch ∷ (six_of n ++ (c ∷ []));
  whole = refl;
  first = block_first letter switch n (c ∷ 13 ∷ []) a ∙ rw (ident_no_end c f.named);
  taken = rw (a, digit_capital switch f.digit);
  short = omega arith;
  long = four_long letter switch (n / 1048576 % 16) (n / 65536 % 16) _ a;
}

figures_ended : (f : Figures) → InRange f → Ended (spelling f)
figures_ended (F.refused n) h = absurd h
figures_ended (F.verdict s n ident) h = block_ended _ s _ ident refl h.0
figures_ended (F.travelled s k minus t ident) h = block_ended _ s _ ident refl h.0
figures_ended (F.status s v ident) h = block_ended _ s _ ident refl h.0
figures_ended (F.echo s n ident) h = block_ended _ s _ ident refl h.0
figures_ended (F.placed s k z ident) h = block_ended _ s _ ident refl h.0
figures_ended (F.inputs s w ident) h = block_ended _ s _ ident refl h.0

ended : (s : List ℕ) (f : Figures) → Says s f → Ended s
ended s f b = subst Ended b.bytes (figures_ended f b.fits)

-- The first word of a block is no name of a station's command, which has three characters.
pub block_long : (s : List ℕ) (f : Figures) → Says s f → length (part 32 0 (before_end s)) ≡ 3 → ⊥
block_long s f b =
    let e = ended s f b in
    subst (λ (l : List ℕ). length (part 32 0 l) ≡ 3 → ⊥) (sym e.first) e.long

-- ---- told by its figures

line_told : (s : List ℕ) (f : Figures) (e : Ended s) → read_of s ≡ f → ToldBy e.line f
unfolding block_text
line_told s f e r = record {
  taken = e.taken;
  short = e.short;
  words = ap (λ (x : List ℕ). figure_text (read_of x)) e.whole ∙ ap figure_text r;
}

block_told : (s : List ℕ) (f : Figures) → Says s f → ToldBy (before_end s) f
block_told s f b =
    let e = ended s f b in
    subst (λ (l : List ℕ). ToldBy l f) (sym e.first) (line_told s f e (blocks_read.read s f b))

-- What is read says itself.
read_says : (s : List ℕ) (f : Figures) → Spelt s f → is_read f ≡ true → Says s f
read_says s (F.refused n) t h = absurd (false≢true h)
read_says s (F.verdict d n ident) t h = t
read_says s (F.travelled d k minus v ident) t h = t
read_says s (F.status d v ident) t h = t
read_says s (F.echo d n ident) t h = t
read_says s (F.placed d k z ident) t h = t
read_says s (F.inputs d w ident) t h = t

-- Two lines with 0D behind them are the same only if the lines are.
same_line : (k l : List ℕ) → k ++ (13 ∷ []) ≡ l ++ (13 ∷ []) → k ≡ l
same_line k l e =
    let n : length k ≡ length l =
    omega (arith, ap length e, length-append k (13 ∷ []), length-append l (13 ∷ [])) in
    sym (take-append_seam k (13 ∷ [])) ∙ (λ i. take (n i) (e i)) ∙ take-append_seam l (13 ∷ [])

line_read : (l : List ℕ) → is_read (read_of (l ++ (13 ∷ []))) ≡ true → ToldBy l (read_of (l ++ (13 ∷ [])))
line_read l h =
    let s = l ++ (13 ∷ []) in
    let e = ended s (read_of s) (read_says s (read_of s) (blocks_read.only s) h) in
    subst (λ (x : List ℕ). ToldBy x (read_of s)) (same_line e.line l e.whole) (line_told s (read_of s) e refl)

pub replies_told : RepliesTold
replies_told = record { lines = line_read; blocks = block_told }
