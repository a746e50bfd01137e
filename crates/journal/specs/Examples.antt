-- Worked examples of journals (paper 02, 1/14).
use Rattle.std.specs.Prelude.{ℕ, ◌-◌, ◌^◌, true, List, [], ◌∷◌, ◌++◌, ◌≡◌, ℤ, pos, negsuc, replicate}
use Rattle.journal.specs.declared.Entry.{Entry}
use Rattle.journal.specs.Journal.{appended, append_buffer, read_at, nothing_at}

abbrev pub five : ℤ → ℤ → List ℤ
five a b = a ∷ b ∷ pos 0 ∷ pos 0 ∷ pos 0 ∷ []

-- 207 ticks, whole, travels 1, -1, 0, 0, 0.
abbrev pub sample : Entry
sample = record { ticks = 207; cause = 0; travels = five (pos 1) (negsuc 0) }

abbrev pub sample_bytes : List ℕ
sample_bytes = 0xCF ∷ 0x01 ∷ 0x00 ∷ 0x02 ∷ 0x01 ∷ 0x00 ∷ 0x00 ∷ 0x00 ∷ []

-- 208 ticks, stopped, travels -2, 3, 0, 0, 0.
abbrev pub other : Entry
other = record { ticks = 208; cause = 1; travels = five (negsuc 1) (pos 3) }

abbrev pub other_bytes : List ℕ
other_bytes = 0xD0 ∷ 0x01 ∷ 0x01 ∷ 0x03 ∷ 0x06 ∷ 0x00 ∷ 0x00 ∷ 0x00 ∷ []

-- Ticks 0 are out of range.
abbrev pub no_ticks : Entry
no_ticks = record { ticks = 0; cause = 0; travels = five (pos 0) (pos 0) }

-- An entry with these ticks, this cause and this first travel is out of range.
abbrev pub Refused : ℕ → ℕ → ℤ → Type 0
Refused ticks cause travel =
    appended (replicate 23 255) 0 (record { ticks = ticks; cause = cause; travels = five travel (pos 0) })
    ≡ record { next = 0; number = 24 }

pub record WriteExamples : Type 0 where
  pub written : append_buffer (replicate 8 255) 0 sample ≡ sample_bytes
  pub at_a_place : append_buffer (replicate 11 255) 2 sample ≡ 255 ∷ 255 ∷ (sample_bytes ++ (255 ∷ []))
  pub next_place : appended (replicate 11 255) 2 sample ≡ record { next = 10; number = 0 }
  pub no_space : appended (replicate 7 255) 0 sample ≡ record { next = 0; number = 22 }
  pub past_the_end : appended [] 1 sample ≡ record { next = 1; number = 22 }
  pub range_first : appended [] 1 no_ticks ≡ record { next = 1; number = 24 }
  pub no_space_unaltered : append_buffer (replicate 7 255) 0 sample ≡ replicate 7 255
  pub range_unaltered : append_buffer (replicate 8 255) 0 no_ticks ≡ replicate 8 255
  pub ticks_over : Refused (2 ^ 45) 0 (pos 0)
  pub cause_over : Refused 1 2 (pos 0)
  pub travel_over : Refused 1 0 (pos 524288)
  pub travel_under : Refused 1 0 (negsuc 524287)

abbrev pub six_times : ℕ → List ℕ → List ℕ
six_times b rest = b ∷ b ∷ b ∷ b ∷ b ∷ b ∷ rest

-- One entry, with these ticks and this first travel.
abbrev pub OneEntry : List ℕ → ℕ → ℕ → ℤ → Type 0
OneEntry bytes next ticks travel =
    read_at bytes 0 ≡ record {
      entry = record { ticks = ticks; cause = 0; travels = five travel (pos 0) };
      next = next;
      found = true;
      number = 0;
    }

pub record ReadExamples : Type 0 where
  pub sample_read : read_at sample_bytes 0 ≡ record { entry = sample; next = 8; found = true; number = 0 }
  pub behind_the_first : read_at (sample_bytes ++ other_bytes) 8
      ≡ record { entry = other; next = 16; found = true; number = 0 }
  pub at_the_end : read_at sample_bytes 8 ≡ nothing_at 8 0
  pub no_bytes : read_at [] 0 ≡ nothing_at 0 0
  pub past_the_end : read_at [] 1 ≡ nothing_at 1 0
  pub one_open : read_at (0x80 ∷ []) 0 ≡ nothing_at 0 23
  pub longer : read_at (0x80 ∷ 0x00 ∷ []) 0 ≡ nothing_at 0 24
  pub ticks_zero : read_at (0x00 ∷ []) 0 ≡ nothing_at 0 24
  pub ticks_alone : read_at (0x01 ∷ []) 0 ≡ nothing_at 0 23
  pub cause_two : read_at (0x01 ∷ 0x02 ∷ []) 0 ≡ nothing_at 0 24
  pub cause_open : read_at (0x01 ∷ 0x81 ∷ []) 0 ≡ nothing_at 0 23
  pub cause_seventh : (rest : List ℕ) → read_at (0x01 ∷ six_times 0x80 (0x80 ∷ rest)) 0 ≡ nothing_at 0 24
  pub six_open : read_at (six_times 0x80 []) 0 ≡ nothing_at 0 23
  pub seventh_open : read_at (six_times 0x80 (0x80 ∷ [])) 0 ≡ nothing_at 0 24
  pub seventh_before_zero : read_at (six_times 0x80 (0x80 ∷ 0x00 ∷ [])) 0 ≡ nothing_at 0 24
  pub seventh_whatever_follows : (rest : List ℕ) → read_at (six_times 0x80 (0x80 ∷ rest)) 0 ≡ nothing_at 0 24
  pub seventh_zero : read_at (six_times 0x80 (0x00 ∷ [])) 0 ≡ nothing_at 0 24
  pub ticks_over : read_at (six_times 0x80 (0x08 ∷ [])) 0 ≡ nothing_at 0 24
  pub ticks_most : OneEntry (six_times 0xFF (0x07 ∷ 0 ∷ 0 ∷ 0 ∷ 0 ∷ 0 ∷ 0 ∷ [])) 13 (2 ^ 45 - 1) (pos 0)
  pub travel_most : OneEntry (1 ∷ 0 ∷ 0xFE ∷ 0xFF ∷ 0x3F ∷ 0 ∷ 0 ∷ 0 ∷ 0 ∷ []) 9 1 (pos 524287)
  pub travel_least : OneEntry (1 ∷ 0 ∷ 0xFD ∷ 0xFF ∷ 0x3F ∷ 0 ∷ 0 ∷ 0 ∷ 0 ∷ []) 9 1 (negsuc 524286)
  pub travel_over : read_at (1 ∷ 0 ∷ 0xFF ∷ 0xFF ∷ 0x3F ∷ []) 0 ≡ nothing_at 0 24
  pub travel_seventh : (rest : List ℕ) → read_at (1 ∷ 0 ∷ six_times 0x80 (0x80 ∷ rest)) 0 ≡ nothing_at 0 24
