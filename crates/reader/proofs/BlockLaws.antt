-- Each form of a reply block, read back: what the reader gives is what the block was made from. Assumes nothing.
use Rattle.std.proofs.Common.{Option, None, Some}
use Prim.Native.Nat.{ℕ, ◌-◌, ◌%◌, ◌≤◌, ◌<◌}
use native.Mathlib.Omega.{arith}
use mathlib.Core.Bool.{Bool, false}
use mathlib.Core.Path.{◌≡◌, ap, ◌∙◌}
use borrow.Author.Tests.{lt-ltb, le-ltb, ne_eqb, ltb-false}
use lib.IntN.{ℤ, pos, negsuc}
use Rattle.laws.proofs.Pick.{by_lt}
use Rattle.digits.specs.Digits.{five_digits, six_digits, top_bit, six_of}
use Rattle.digits.proofs.Laws.{digit_capital}
use Rattle.digits.proofs.Six.{six_number}
use Rattle.block.specs.Block.{block_of}
use Rattle.line.specs.Codes.{code}
use Rattle.reply.specs.Reply.{
  coded,
  letter_u,
  letter_s,
  letter_small_s,
  letter_r,
  block_for,
  travel_digits,
  twenty,
}
use Rattle.machine.specs.Starts.{outside}
use Rattle.host.proofs.Contents.{code_back, five_back, minus_low, minus_back, length_back}
use Rattle.reader.specs.Reader.{
  verdict,
  travelled,
  status,
  echo,
  placed,
  inputs,
  signed,
  fields_in,
  read_of,
}
use Rattle.reader.specs.Blocks.{Framed, VerdictFits}
use Rattle.reader.proofs.VerdictLaws.{is_verdict_lem}
use Rattle.reader.proofs.EchoLaws.{EchoFits}

-- ---- positions

-- A position in range, from its 20 bits.
pub signed_twenty : (z : ℤ) → outside z ≡ false → signed (twenty z) ≡ z
signed_twenty (pos n) e =
    let h = ltb-false 524287 n e in
    let k : n % five_digits ≡ n = omega arith in
    let l : n < top_bit = omega arith in
    rw (k, lt-ltb n top_bit l)
signed_twenty (negsuc n) e =
    let h = ltb-false 524287 n e in
    let k : top_bit ≤ 1048575 - n % five_digits = omega arith in
    rw (le-ltb (1048575 - n % five_digits) top_bit k) (ap negsuc (omega arith))

pub twenty_low : (z : ℤ) → twenty z < five_digits
twenty_low (pos n) = omega arith
twenty_low (negsuc n) = omega arith

pub signed_inside : (v : ℕ) → v < five_digits → outside (signed v) ≡ false
signed_inside v h =
    by_lt (λ (z : ℤ). outside z ≡ false) v top_bit (pos v) (negsuc (1048575 - v))
    (λ k. le-ltb 524287 v (omega arith)) (λ k. le-ltb 524287 (1048575 - v) (omega arith))

-- ---- blocks

-- The fields of a block that starts so and says n.
block_read : (letter switch n : ℕ) (ident : Option ℕ) → Framed switch ident → n < six_digits
    → read_of (block_for switch letter n ident) ≡ fields_in letter switch n ident
unfolding read_of block_of six_of
block_read letter switch n None h low =
    rw (digit_capital switch h.digit, ne_eqb switch 12 h.other, six_number n low)
block_read letter switch n (Some c) h low =
    rw (h.named, digit_capital switch h.digit, ne_eqb switch 12 h.other, six_number n low)

module _ (switch : ℕ) (ident : Option ℕ) (h : Framed switch ident) where
  pub verdict_read : (n : ℕ) → n < six_digits → VerdictFits n ident
      → read_of (block_for switch letter_u n ident) ≡ verdict switch n ident
  unfolding fields_in
  verdict_read n low f = block_read letter_u switch n ident h low ∙ rw (is_verdict_lem n ident f)

  pub travel_read : (k : ℕ) (minus : Bool) (t : ℕ) → k < 5 → t < top_bit
      → read_of (block_for switch letter_s (coded k (travel_digits minus t)) ident) ≡ travelled switch k minus t ident
  unfolding fields_in
  travel_read k minus t p q =
      let v = travel_digits minus t in
      let low = minus_low minus t q in
      block_read letter_s switch (coded k v) ident h (omega arith)
      ∙ rw (code_back k v low, lt-ltb k 5 p, five_back k v low, length_back minus t q, minus_back minus t q)

  pub status_read : (v : ℕ) → v < 128 → read_of (block_for switch letter_s (coded 6 v) ident) ≡ status switch v ident
  unfolding fields_in
  status_read v p =
      let e = code_back 6 v (omega arith) in
      let f = five_back 6 v (omega arith) in
      block_read letter_s switch (coded 6 v) ident h (omega arith) ∙ rw (e, f, lt-ltb v 128 p)

  pub echo_read : (n : ℕ) → n < six_digits → EchoFits n → read_of (block_for switch letter_s n ident) ≡ echo switch n ident
  unfolding fields_in
  echo_read n low f =
      block_read letter_s switch n ident h low
      ∙ rw (le-ltb (code n) 5 f.axes, ne_eqb (code n) 6 f.six, f.echo)

  pub place_read : (k : ℕ) (z : ℤ) → k < 5 → outside z ≡ false
      → read_of (block_for switch letter_small_s (coded k (twenty z)) ident) ≡ placed switch k z ident
  unfolding fields_in
  place_read k z p q =
      let t = twenty_low z in
      block_read letter_small_s switch (coded k (twenty z)) ident h (omega arith)
      ∙ rw (code_back k (twenty z) t, lt-ltb k 5 p, five_back k (twenty z) t)
      (ap (λ (x : ℤ). placed switch k x ident) (signed_twenty z q))

  pub inputs_read : (w : ℕ) → w < six_digits → read_of (block_for switch letter_r w ident) ≡ inputs switch w ident
  unfolding fields_in
  inputs_read w low = block_read letter_r switch w ident h low
