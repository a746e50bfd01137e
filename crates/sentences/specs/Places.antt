-- The places of the words in the table of words (`keywords`). `Promises` has that each word is found at its place.
use Rattle.std.specs.Prelude.{ℕ}

-- A decimal number follows.
abbrev pub start : ℕ
start = 0

abbrev pub travel : ℕ
travel = 1

abbrev pub position : ℕ
position = 2

abbrev pub dwell : ℕ
dwell = 3

abbrev pub watch : ℕ
watch = 4

-- A hexadecimal number follows.
abbrev pub polarity : ℕ
polarity = 5

abbrev pub low : ℕ
low = 6

abbrev pub high : ℕ
high = 7

abbrev pub outputs : ℕ
outputs = 8

-- A figure follows.
abbrev pub speed : ℕ
speed = 9

abbrev pub slope : ℕ
slope = 10

-- An axis and a distance follow.
abbrev pub distance : ℕ
distance = 11

-- Nothing follows.
abbrev pub stop : ℕ
stop = 12

abbrev pub status : ℕ
status = 13

abbrev pub everything : ℕ
everything = 14

abbrev pub inputs : ℕ
inputs = 15

abbrev pub clear : ℕ
clear = 16

abbrev pub reset : ℕ
reset = 17

-- The word `on` follows.
abbrev pub carry : ℕ
carry = 18

-- No commands: the host's first line, the master picker, the bench program's ticks, a trial of the program preview.
abbrev pub opening : ℕ
opening = 19

abbrev pub master : ℕ
master = 20

abbrev pub ticks : ℕ
ticks = 21

abbrev pub trial : ℕ
trial = 22
