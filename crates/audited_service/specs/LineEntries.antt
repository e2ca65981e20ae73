-- The entry of a line and its reply.
use Rattle.std.specs.Prelude.{ℕ, ◌+◌, ◌-◌, ◌*◌, nat_le, nat_eq, List, [], length, replicate, slice_index, codes, unwrap_or, Option, None, Some, if◌then◌else◌}
use Rattle.std.specs.List.{starts_with}
use Rattle.cca_roles.specs.Characters.{is_digit}
use Rattle.line_service.specs.Reading.{line_limit}
use Rattle.verb_script.specs.Grammar.{Request, row_of, value_of}
use Rattle.verb_script.specs.Parts.{first_label}
use Rattle.verb_script.specs.Requests.{request_of}
use Rattle.audit_trail.specs.Entries.{filled}
use Rattle.audit_trail.specs.declared.entries.Entry.{Entry}

-- what a decimal digit counts; 0 where it is none
abbrev pub digit : ℕ → ℕ
digit c = if is_digit c then c - 0x30 else 0

-- the rule that a reply names, in two decimal digits behind `NO`; 0 where it names none
abbrev pub rule_in : List ℕ → ℕ
rule_in reply =
    if starts_with nat_eq reply (codes "NO ")
    then 10 * digit (slice_index reply 3) + digit (slice_index reply 4)
    else 0

-- the entry of a request, or of a line that is none
abbrev pub entry_with : ℕ → Option Request → Entry
entry_with rule None = record {
  rule = rule;
  role = replicate 8 0;
  verb = replicate 10 0;
  label = replicate 64 0;
  label_length = 0;
}
entry_with rule (Some r) =
    let label = unwrap_or (first_label r) [] in
    record {
      rule = rule;
      role = filled 8 (value_of r (codes "role"));
      verb = filled 10 (row_of r.name).verb;
      label = filled 64 label;
      label_length = length label;
    }

-- the request that a line spells, where it is no longer than a line may be
abbrev pub request_in : List ℕ → Option Request
request_in line = if nat_le (length line) line_limit then request_of line else None

-- what the trail says of a line and of its reply
abbrev pub entry_of : List ℕ → List ℕ → Entry
entry_of line reply = entry_with (rule_in reply) (request_in line)
