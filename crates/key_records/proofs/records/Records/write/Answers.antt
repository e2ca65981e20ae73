use Rattle.std.proofs.Common.{◌≡◌, inl, ℕ, List, Option, None, Some, get_or, refl, sym, ap, subst, ◌∙◌}
use Rattle.key_cells.specs.Lease.{bench_of}
use Rattle.key_tokens.specs.Denotes.{denoted}
use Rattle.key_records.specs.Changes.{ChangesLabels}
use Rattle.record_bodies.specs.LabelChanges.{written}
use Rattle.record_bodies.specs.Directory.{label_at}
use Rattle.record_bodies.specs.Entries.{entry, key_row, label_or, row_directory, pattern_for}
use Rattle.record_bodies.specs.RecordBody.{record_body, key_body, key_kind, no_second, renewed, IsKept}
use Rattle.record_bodies.specs.declared.rows.Row.{Row}
use Rattle.record_bodies.specs.declared.rows.Second.{Second}
use Rattle.key_tokens.specs.Fields.{pattern_of_token}
use Rattle.master_registers.specs.Loaded.{masters_in}
use Rattle.master_registers.specs.declared.patterns.Pattern.{Pattern}
use Rattle.verb_rules.specs.Keys.{keys_of}
use Rattle.cca_roles.proofs.DirectoryLaws.{apart_same, some_of}
use Rattle.record_bodies.proofs.KeptLaws.{denoted_sound, denoted_pattern, pattern}
use Rattle.key_records.proofs.StoreLaws.{changed_as, written_is, labels_changed}
use Rattle.key_records.proofs.records.Records.write.Goals as goal

pub kept_token-token-requires : goal.kept_token-token-requires
kept_token-token-requires g c =
    let masters = keys_of (masters_in c.args.held.now (bench_of c.args.lease.now)) in
    let key = some_of (denoted masters c.args.token.now) c.requires.key in
    denoted_sound masters c.args.token.now key.0 key.1

abbrev row : List ℕ → Pattern → Row
row label p = record { label = label; pattern = Some p; ahead = None }

wrote_key : (label now kept token body : List ℕ) (second : Second) → label ≡ now → kept ≡ renewed token → body ≡ record_body key_kind label kept second → second ≡ no_second → body ≡ key_body now (renewed token)
wrote_key label now kept token body second labels tokens is none =
    is ∙ ap (record_body key_kind label kept) none ∙ ap (λ l. key_body l kept) labels ∙ ap (key_body now) tokens

key_row_is : (label now token : List ℕ) (p : Pattern) → label ≡ now → p.bytes ≡ pattern_of_token token → Some (row label p) ≡ Some (key_row now token)
key_row_is label now token p labels patterns = ap (λ l. Some (row l p)) labels ∙ ap (λ b. Some (row now (pattern b))) patterns

pub change-requires-clause-reads : goal.change-requires-clause-reads
change-requires-clause-reads g c = (
  c.write_record.ensures.label,
  record {
    token = c.kept_token-token.result;
    is_kept = subst (λ (p : Pattern). IsKept c.kept_token-token.result p) (ap pattern (sym c.pattern_in-pattern.ensures)) c.kept_token-token.ensures.known;
    body = inl (c.write_record.ensures.body ∙ ap (record_body key_kind c.label-label.result c.kept_token-token.result) c.no_second.ensures);
  },
)

pub change-requires-clause-apart : goal.change-requires-clause-apart
change-requires-clause-apart g c =
    let label : List ℕ = c.label-label.result in
    apart_same (row_directory c.args.self.now) c.cell-cell.result label c.cell-cell.ensures.rows.apart
    (ap (label_at (row_directory c.args.self.now)) c.cell-cell.ensures.cell ∙ c.label-label.ensures.held)

pub returns-clause-labels : goal.returns-clause-labels
returns-clause-labels g c masters s key start denotes =
    let label : List ℕ = c.label-label.result in
    let rows : List (Option Row) = c.args.self.now in
    let m0 = g.D.Disk.medium c.args.store.now in
    let m1 = g.D.Disk.medium c.change.new.store in
    let same : c.pattern_in-pattern.result ≡ pattern_for masters key = ap pattern c.pattern_in-pattern.ensures ∙ sym (denoted_pattern masters c.args.token.now key denotes) in
    let held : label_at (row_directory rows) c.cell-cell.result ≡ Some label = ap (label_at (row_directory rows)) c.cell-cell.ensures.cell ∙ c.label-label.ensures.held in
    let bytes : List ℕ = c.write_record.new.body in
    let body : bytes ≡ key_body label c.kept_token-token.result = c.write_record.ensures.body ∙ ap (record_body key_kind label c.kept_token-token.result) c.no_second.ensures in
    subst (λ (n : ℕ). ChangesLabels masters n s (written n key s) c.change.new.self m0 m1 c.change.result) c.cell-cell.ensures.cell
    (labels_changed masters c.cell-cell.result bytes (Some (entry label (Some key))) rows (Some (row label c.pattern_in-pattern.result)) s (written c.cell-cell.result key s) c.cell-cell.ensures.within
    (c.write_record.ensures.label, record { token = c.kept_token-token.result; are = c.kept_token-token.ensures.known.bytes; is_kept = c.kept_token-token.ensures.kept masters ∙ denotes; body = inl (body, refl) })
    (ap (λ p. Some (row label p)) same) (apart_same (row_directory rows) c.cell-cell.result label c.cell-cell.ensures.rows.apart held) (written_is masters rows s label c.cell-cell.result key held)
    m0 m1 start c.change.result c.change.new.self c.change.ensures.changes.cell c.change.ensures.changes.memory.done)

pub cell-cell-requires : goal.cell-cell-requires
cell-cell-requires g c = c.requires.held

pub label-label-requires : goal.label-label-requires
label-label-requires g c = c.requires.held

pub change-requires-clause-within : goal.change-requires-clause-within
change-requires-clause-within g c = c.cell-cell.ensures.within

pub change-requires-clause-size : goal.change-requires-clause-size
change-requires-clause-size g c = c.requires.size

pub change-requires-clause-settled : goal.change-requires-clause-settled
change-requires-clause-settled g c = c.requires.settled

pub change-requires-clause-holds : goal.change-requires-clause-holds
change-requires-clause-holds g c = c.requires.holds

pub returns-clause-changes : goal.returns-clause-changes
returns-clause-changes g c =
    let rows : List (Option Row) = c.args.self.now in
    let label : List ℕ = c.label-label.result in
    let now = (label_or (get_or rows c.args.place None)) in
    let token : List ℕ = c.args.token.now in
    changed_as g.D.Disk.medium g.D.Disk.faults c.cell-cell.result c.args.place c.write_record.new.body (key_body now (renewed token)) (Some (row label c.pattern_in-pattern.result)) (Some (key_row now token)) rows c.change.new.self
    c.args.lease.now _ c.args.store.now c.change.new.store c.change.result c.cell-cell.ensures.cell
    (wrote_key label now c.kept_token-token.result token c.write_record.new.body c.no_second.result c.label-label.ensures.label c.kept_token-token.ensures.renewed c.write_record.ensures.body c.no_second.ensures)
    (key_row_is label now token c.pattern_in-pattern.result c.label-label.ensures.label c.pattern_in-pattern.ensures) refl c.change.ensures.changes

pub returns-clause-faults : goal.returns-clause-faults
returns-clause-faults g c = c.change.ensures.faults
