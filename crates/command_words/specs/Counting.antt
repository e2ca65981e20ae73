-- Counting replies byte by byte.
use Rattle.std.specs.Prelude.{ℕ, ◌+◌, ◌-◌, ◌^◌, ◌==◌, ◌&&◌, nat_lt, min, Bool, true, false, List, codes, fold, slice_index, if◌then◌else◌}
use Rattle.line_service.specs.Lines.{newline}
use Rattle.command_words.specs.Demo.{summary_text}
use Rattle.command_words.specs.declared.counts.Begun.{Begun}
use Rattle.command_words.specs.declared.counts.Begun.TheVariants.{Empty, FirstO, FirstN, Done, Refused, Other}
use Rattle.command_words.specs.declared.counts.Counts.{Counts}

-- how the line begins, with one more byte
abbrev pub begun_after_lem : Begun → ℕ → Begun
begun_after_lem Empty b = if b == 79 then FirstO else (if b == 78 then FirstN else Other)
begun_after_lem FirstO b = if b == 75 then Done else Other
begun_after_lem FirstN b = if b == 79 then Refused else Other
begun_after_lem Done b = Done
begun_after_lem Refused b = Refused
begun_after_lem Other b = Other

-- how many bytes of ` warn=old` the line ends with, with one more byte
abbrev pub matched_after_lem : ℕ → ℕ → ℕ
matched_after_lem k b = if b == 32 then 1 else (if nat_lt k 9 && slice_index (codes " warn=old") k == b then k + 1 else 0)

-- one more, for a count that stops at the largest number of 32 bits
abbrev pub one_more : ℕ → ℕ
one_more n = min (n + 1) (2 ^ 32 - 1)

abbrev pub is_done : Begun → Bool
is_done Done = true
is_done Empty = false
is_done FirstO = false
is_done FirstN = false
is_done Refused = false
is_done Other = false

abbrev pub is_refused : Begun → Bool
is_refused Refused = true
is_refused Empty = false
is_refused FirstO = false
is_refused FirstN = false
is_refused Done = false
is_refused Other = false

abbrev pub one_more_where_lem : Bool → ℕ → ℕ
one_more_where_lem test n = if test then one_more n else n

-- a line came to its end
abbrev pub line_ended_lem : Counts → Counts
line_ended_lem c = record {
  ok = one_more_where_lem (is_done c.begun) c.ok;
  refused = one_more_where_lem (is_refused c.begun) c.refused;
  old = one_more_where_lem (c.matched == 9) c.old;
  begun = Empty;
  matched = 0;
}

abbrev pub count_byte : Counts → ℕ → Counts
count_byte c b =
    if b == newline
    then line_ended_lem c
    else record c { begun = begun_after_lem c.begun b; matched = matched_after_lem c.matched b }

abbrev pub blank_counts : Counts
blank_counts = record { ok = 0; refused = 0; old = 0; begun = Empty; matched = 0 }

-- the counts after some bytes
unfoldable pub counted : List ℕ → Counts
counted bytes = fold count_byte blank_counts bytes

-- the summary of replies that were counted
abbrev pub counted_summary : ℕ → List ℕ → List ℕ
counted_summary n bytes = let c = counted bytes in summary_text n c.ok c.refused c.old
