-- What a program becomes as it reads: passes of bytes, one after another. F is what a pass is called by, T the program.
use Rattle.std.specs.Prelude.{ℕ, List, ◌<◌, length, Result, Ok}
use Rattle.std.specs.List.{FoldsTo}
use denote.Ref.{Bor}

-- Bytes may be passed to a program, whichever they are.
abbrev pub Takes : {F T : Type 0} → (F → T → Bor (List ℕ) → Type 0) → F → T → Type 0
Takes pre pass program = (bytes : Bor (List ℕ)) → pre pass program bytes

-- To what a pass that did not fail has made of a program, bytes may be passed again.
abbrev pub Keeps : {F T E : Type 0} → (F → T → Bor (List ℕ) → Type 0) → (F → T → Bor (List ℕ) → Result T E → F → Type 0)
    → Type 0
Keeps {F} {T} pre step =
    (p : F) (t : T) (bytes : Bor (List ℕ)) (u : T) (q : F) → step p t bytes (Ok u) q → Takes pre q u

-- Passes of bytes, one after another, each of a byte at least and none that failed, lead from a program to another.
abbrev pub Passes : {F T E : Type 0} → (F → T → Bor (List ℕ) → Result T E → F → Type 0) → F × T → F × T → Type 0
Passes {F} {T} step from to =
    (parts : List (Bor (List ℕ)))
    × FoldsTo {P = F × T} (λ p x q. (0 < length x.now) × step p.0 p.1 x (Ok q.1) q.0) from parts to

-- Such passes made the end of the start, and to the end bytes may be passed again.
abbrev pub Passed : {F T E : Type 0} → (F → T → Bor (List ℕ) → Type 0)
    → (F → T → Bor (List ℕ) → Result T E → F → Type 0) → F → T → T → Type 0
Passed {F} pre step pass start end = (last : F) × Takes pre last end × Passes step (pass, start) (last, end)
