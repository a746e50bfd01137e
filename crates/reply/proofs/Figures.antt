-- A law of the figures in a reply: the bias of a held position. Assumes nothing.
use Prim.Native.Nat.{ℕ, suc, ◌-◌}
use mathlib.Core.Path.{◌≡◌}
use native.Mathlib.Omega.{arith}
use lib.IntN.{ℤ, pos, negsuc, ◌+ℤ◌}
use Rattle.laws.proofs.Pick.{by_lt}
use Rattle.reply.specs.Reply.{bias}

-- What is held is the bias of the position that it stands for, for every n.
pub bias_held : (n : ℕ) → bias (pos n +ℤ negsuc 524287) ≡ n
bias_held n =
    by_lt (λ (z : ℤ). bias z ≡ n) n 524288 (negsuc (524288 - suc n)) (pos (n - 524288))
    (λ h. omega arith) (λ h. omega arith)
