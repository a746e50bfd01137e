-- What is shown of a trial (docs/PROTOCOL.md, "A dose on screen first"; paper 02, 5/14): when the move ends, and the
-- pulses and the share of each wine; or the number that turns the trial away.
use Rattle.std.specs.Prelude.{ℕ, zero, suc, ◌+◌, ◌*◌, ◌/◌, ◌%◌, cond, List, [], ◌∷◌, ◌++◌, eqb, get_or}
use Rattle.machine.specs.Calls.{chars}
use Rattle.text.specs.Decimal.{decimal_of}
use Rattle.sentences.specs.Sentences.{turned_text}
use Rattle.trial.specs.declared.Trial.{Trial}

-- ---- Numbers with decimals

-- Two digits of a number: those of its tens and its ones.
abbrev pub pair_of : ℕ → List ℕ
pair_of n = (48 + n / 10 % 10) ∷ (48 + n % 10) ∷ []

-- Six digits of a number, a point before them.
abbrev pub six_decimals : ℕ → List ℕ
six_decimals n = chars "." ++ (pair_of (n / 10000) ++ (pair_of (n / 100) ++ pair_of n))

-- The time of n ticks, each of 4 µs: whole seconds, and the µs that are left over.
abbrev pub seconds_of : ℕ → ℕ
seconds_of n = n * 4 / 1000000

abbrev pub micros_of : ℕ → ℕ
micros_of n = n * 4 % 1000000

abbrev pub time_text : ℕ → List ℕ
time_text n = decimal_of (seconds_of n) ++ six_decimals (micros_of n)

-- ---- The first line: the tick of the end, counted from 1, and its time; where the move does not end in these ticks,
-- the ticks asked for and their time

abbrev pub end_text : ℕ → ℕ → List ℕ
end_text end n =
    cond (eqb end 0) (chars "does not end in " ++ (decimal_of n ++ (chars " ticks, " ++ time_text n)))
    (chars "ends in tick " ++ (decimal_of end ++ (chars ", " ++ time_text end)))

-- Behind the text a line feed (10).
abbrev pub master_line : ℕ → ℕ → ℕ → List ℕ
master_line master end n =
    chars "master " ++ (decimal_of master ++ (chars ": " ++ (end_text end n ++ (chars " s" ++ (10 ∷ [])))))

-- ---- The wines: the travel of axis k after the last tick, and its share of all

-- The pulses of wine k, those of the first n wines together, and those of all five.
abbrev pub pulses : Trial → ℕ → ℕ
pulses t k = (get_or t.travels k (record { 0 = 0 })).0

unfoldable pub pulses_in : ℕ → Trial → ℕ
pulses_in zero t = 0
pulses_in (suc n) t = pulses_in n t + pulses t n

abbrev pub all_pulses : Trial → ℕ
all_pulses t = pulses_in 5 t

-- A share: a part by the sum, in hundredths of a percent without what is left over; 0 where no axis has moved.
abbrev pub share_of : ℕ → ℕ → ℕ
share_of part sum = cond (eqb sum 0) 0 (part * 10000 / sum)

abbrev pub share_at : Trial → ℕ → ℕ
share_at t k = share_of (pulses t k) (all_pulses t)

abbrev pub share_text : ℕ → List ℕ
share_text h = decimal_of (h / 100) ++ (chars "." ++ pair_of h)

abbrev pub wine_line : Trial → ℕ → List ℕ
wine_line t k =
    chars "wine " ++ (decimal_of k ++ (chars ": " ++ (decimal_of (pulses t k) ++ (chars " pulses, "
    ++ (share_text (share_at t k) ++ (chars " %" ++ (10 ∷ [])))))))

-- The lines of the first n wines.
unfoldable pub wine_lines : ℕ → Trial → List ℕ
wine_lines zero t = []
wine_lines (suc n) t = wine_lines n t ++ wine_line t n

-- ---- The screen

abbrev pub six_lines : Trial → ℕ → ℕ → List ℕ
six_lines t master n = master_line master t.end n ++ wine_lines 5 t

-- Six lines; or, in their place, what turns the trial away.
abbrev pub screen_text : Trial → ℕ → ℕ → List ℕ
screen_text t master n = cond (eqb t.number 0) (six_lines t master n) (turned_text t.number ++ (10 ∷ []))

-- What is printed to a line that begins with D and has not the form.
abbrev pub question_text : List ℕ
question_text = chars "? D 0 1000000 000000" ++ (10 ∷ [])
