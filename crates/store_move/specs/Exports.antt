-- The keys of a store that may be moved to another module, and the transport key under which they go.
use Rattle.std.specs.Prelude.{◌≡◌, ℕ, not, List, [], ◌∷◌, is_none, Option, None, Some, Result, MatchResult}
use Rattle.cca_vectors.specs.Checks.{Check, check, first_failing}
use Rattle.cca_vectors.specs.Permissions.{is_exportable}
use Rattle.cca_vectors.specs.Vectors.{is_part_of}
use Rattle.cca_vectors.specs.declared.key_class.Class.TheVariants.{Exporter}
use Rattle.cca_vectors.specs.declared.key_usage.Usage.TheVariants.{Transport}
use Rattle.key_cells.specs.Bench.{Bench}
use Rattle.key_cells.specs.Lease.{bench_of, holding}
use Rattle.key_cells.specs.declared.leases.Lease.{Lease}
use Rattle.key_tokens.specs.Denotes.{Denoted}
use Rattle.key_transport.specs.Tokens.{external_token}
use Rattle.verb_rules.specs.KeyChecks.{use_checks}
use Rattle.verb_rules.specs.Keys.{opened_key}
use Rattle.verb_rules.specs.Needs.{transport_key}
use Rattle.verb_rules.specs.Rules.{rule_number}
use Rattle.verb_rules.specs.declared.judging.Judged.{Judged}
use Rattle.verb_rules.specs.declared.needs.Need.{Need}
use Rattle.verb_rules.specs.declared.rules.Rule.{Rule}
use Rattle.store_move.specs.declared.moving.Moved.{Moved}
use Rattle.store_move.specs.declared.moving.Moved.TheVariants.{Token, Kept}

-- the control vector of what it holds
abbrev pub vector_in : Option Denoted → List ℕ
vector_in None = []
vector_in (Some key) = key.clear.vector

-- Rule 08: the record is null. Rule 17: its key is a key part. Rule 21: its control vector forbids export.
abbrev pub export_checks : Option Denoted → List Check
export_checks what =
    check 8 (is_none what)
    ∷ check 17 (is_part_of (vector_in what))
    ∷ check 21 (not (is_exportable (vector_in what)))
    ∷ []

-- a transport key under which keys are exported
abbrev pub exporter : Need
exporter = transport_key Exporter Transport

-- Rule 08: the record is null. Rules 17 and 19 to 22: its key is no transport key under which keys are exported.
abbrev pub transport_checks : Option Denoted → List Check
transport_checks what = check 8 (is_none what) ∷ use_checks exporter (vector_in what)

-- ---- what comes of a record

-- the key's external token under a transport key; or the rule that keeps the label back
abbrev pub IsMoved : List ℕ → Option Denoted → Moved → Type 0
IsMoved transport what (Kept rule) = first_failing (export_checks what) ≡ Some (rule_number rule)
IsMoved transport what (Token token) =
    (first_failing (export_checks what) ≡ None)
    × (key : Denoted) × (what ≡ Some key) × (token ≡ external_token transport key.clear)

-- the key is the record's, and may be used as a transport key; or the rule that it breaks
abbrev pub IsTransport : Bench → Option Denoted → Result Judged Rule → Type 0
IsTransport bench what result =
    MatchResult result
    (λ judged. (first_failing (transport_checks what) ≡ None) × (opened_key bench judged ≡ what))
    (λ rule. first_failing (transport_checks what) ≡ Some (rule_number rule))

-- of a lease the body, two places of keys and the schedules may have changed, and nothing else
abbrev pub ChangesWork : Lease → Lease → Type 0
ChangesWork old new =
    new ≡ holding old (record (bench_of old) {
      first = (bench_of new).first;
      key = (bench_of new).key;
      schedules = (bench_of new).schedules;
      body = (bench_of new).body;
    })
