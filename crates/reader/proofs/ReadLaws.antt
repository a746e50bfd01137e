-- Bytes too long for a block. Assumes nothing.
use Prim.Native.Nat.{ℕ, ◌≤◌, ◌<◌}
use native.Mathlib.Omega.{arith}
use mathlib.Core.List.{List}
use mathlib.Core.Path.{◌≡◌}
use borrow.Author.Tests.{le-leb, lt-leb}
use lib.ListN.{length}
use Rattle.reader.specs.Reader.{refused, read_of}

pub too_long : (s : List ℕ) → 10 < length s → refused 20 ≡ read_of s
unfolding read_of
too_long s h =
    let k : 9 ≤ length s = omega arith in
    rw (le-leb 9 (length s) k, lt-leb (length s) 10 h)
