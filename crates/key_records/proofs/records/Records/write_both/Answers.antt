use Rattle.std.proofs.Common.{◌≡◌, ℕ, List, Option, None, Some, get_or, refl, sym, ap, subst, ◌∙◌}
use Rattle.key_cells.specs.Bytes.{AreBytes}
use Rattle.cca_vectors.specs.Vectors.{length_of}
use Rattle.key_cells.specs.Lease.{bench_of}
use Rattle.key_tokens.specs.Denotes.{ClearKey, Denoted, MasterKeys}
use Rattle.key_tokens.specs.Fields.{pattern_of_token, vector_bytes_of}
use Rattle.key_tokens.specs.declared.key_token.Age.TheVariants.{Current}
use Rattle.key_tokens.specs.declared.key_token.Token.{Token}
use Rattle.key_records.specs.Changes.{AreBoth, ChangesLabels}
use Rattle.record_bodies.specs.LabelChanges.{ahead_entry, written_ahead}
use Rattle.record_bodies.specs.Directory.{label_at}
use Rattle.record_bodies.specs.Entries.{both_row, label_or, row_directory, pattern_for, pattern_or}
use Rattle.record_bodies.specs.RecordBody.{both_body, renewed, second_token, IsKept, IsSecond}
use Rattle.record_bodies.specs.declared.rows.Row.{Row}
use Rattle.record_bodies.specs.declared.rows.Second.{Second}
use Rattle.master_registers.specs.Loaded.{masters_in}
use Rattle.master_registers.specs.declared.patterns.Pattern.{Pattern}
use Rattle.verb_rules.specs.Keys.{keys_of}
use Rattle.cca_roles.proofs.DirectoryLaws.{apart_same}
use Rattle.record_bodies.proofs.KeptLaws.{denoted_sound, denoted_pattern, denoted_vector, pattern}
use Rattle.record_bodies.proofs.SecondLaws.{second_pattern, stands_for_none, sealed_single}
use Rattle.key_records.proofs.StoreLaws.{changed_as, written_ahead_is, labels_changed}
use Rattle.key_records.proofs.records.Records.write_both.Goals as goal

pub kept_token-token-requires : goal.kept_token-token-requires
kept_token-token-requires g c =
    let masters = keys_of (masters_in c.args.held.now (bench_of c.args.lease.now)) in
    let both = c.requires.both in
    denoted_sound masters c.args.token.now (record { clear = both.0; age = Current }) both.1.first

abbrev row : List ℕ → Pattern → Pattern → Row
row label p ahead = record { label = label; pattern = Some p; ahead = Some ahead }

wrote_both : (label now kept token body : List ℕ) (second : Second) → label ≡ now → kept ≡ renewed token → body ≡ both_body label kept second → body ≡ both_body now (renewed token) second
wrote_both label now kept token body second labels tokens is =
    is ∙ ap (λ l. both_body l kept second) labels ∙ ap (λ t. both_body now t second) tokens

both_row_is : (label now token : List ℕ) (p ahead : Pattern) → label ≡ now → p.bytes ≡ pattern_of_token token → Some (row label p ahead) ≡ Some (both_row now token ahead)
both_row_is label now token p ahead labels patterns = ap (λ l. Some (row l p ahead)) labels ∙ ap (λ b. Some (row now (pattern b) ahead)) patterns

-- the second token beside the first as it is written
is_second : (masters : MasterKeys) (token written : List ℕ) (second : Second) (clear : ClearKey) → AreBoth masters token second clear → vector_bytes_of written ≡ vector_bytes_of token
    → AreBytes 8 second.pattern.bytes → AreBytes 8 second.sealed.left → AreBytes 8 second.sealed.right → IsSecond written second
is_second masters token written second clear both vectors patterns lefts rights = record {
  pattern = patterns;
  left = lefts;
  right = rights;
  single = λ single. sealed_single both.coming clear second both.is_second (ap length_of (denoted_vector masters token (record { clear = clear; age = Current }) both.first ∙ sym vectors) ∙ single);
}

pub change-requires-clause-reads : goal.change-requires-clause-reads
change-requires-clause-reads g c =
    let masters = keys_of (masters_in c.args.held.now (bench_of c.args.lease.now)) in (
      c.write_record.ensures.label,
      record {
        token = c.kept_token-token.result;
        is_kept = subst (λ (p : Pattern). IsKept c.kept_token-token.result p) (ap pattern (sym c.pattern_in-pattern.ensures)) c.kept_token-token.ensures.known;
        body = record {
          second = c.args.second.now;
          is_second = is_second masters c.args.token.now c.kept_token-token.result c.args.second.now c.requires.both.0 c.requires.both.1 (ap (λ (t : Token). t.vector) c.kept_token-token.ensures.fields)
              c.are_second.ensures.pattern c.are_second.ensures.left c.are_second.ensures.right;
          beside = refl;
          body = c.write_record.ensures.body;
        };
      },
    )

pub change-requires-clause-apart : goal.change-requires-clause-apart
change-requires-clause-apart g c =
    let label : List ℕ = c.label-label.result in
    apart_same (row_directory c.args.self.now) c.cell-cell.result label c.cell-cell.ensures.rows.apart
    (ap (label_at (row_directory c.args.self.now)) c.cell-cell.ensures.cell ∙ c.label-label.ensures.held)

pub returns-clause-labels : goal.returns-clause-labels
returns-clause-labels g c masters s clear start both =
    let label : List ℕ = c.label-label.result in
    let rows : List (Option Row) = c.args.self.now in
    let m0 = g.D.Disk.medium c.args.store.now in
    let m1 = g.D.Disk.medium c.change.new.store in
    let second : Second = c.args.second.now in
    let token : List ℕ = c.kept_token-token.result in
    let key : Denoted = record { clear = clear; age = Current } in
    let same : c.pattern_in-pattern.result ≡ pattern_for masters key = ap pattern c.pattern_in-pattern.ensures ∙ sym (denoted_pattern masters c.args.token.now key both.first) in
    let ahead : second.pattern ≡ pattern_or masters.coming = ap (λ (x : Second). x.pattern) both.is_second ∙ ap pattern_or (sym both.is_coming) in
    let held : label_at (row_directory rows) c.cell-cell.result ≡ Some label = ap (label_at (row_directory rows)) c.cell-cell.ensures.cell ∙ c.label-label.ensures.held in
    let bytes : List ℕ = c.write_record.new.body in
    let body : bytes ≡ both_body label token second = c.write_record.ensures.body in
    let beside : IsSecond token second = is_second masters c.args.token.now token second clear both (ap (λ (t : Token). t.vector) c.kept_token-token.ensures.fields) c.are_second.ensures.pattern c.are_second.ensures.left c.are_second.ensures.right in
    let patterns = second_pattern token second beside.pattern.size ∙ ap (λ (x : Second). x.pattern.bytes) both.is_second in
    subst (λ (n : ℕ). ChangesLabels masters n s (written_ahead n clear s) c.change.new.self m0 m1 c.change.result) c.cell-cell.ensures.cell
    (labels_changed masters c.cell-cell.result bytes (Some (ahead_entry label clear)) rows (Some (row label c.pattern_in-pattern.result second.pattern)) s (written_ahead c.cell-cell.result clear s) c.cell-cell.ensures.within (
      c.write_record.ensures.label,
      record {
        token = token;
        are = c.kept_token-token.ensures.known.bytes;
        is_kept = c.kept_token-token.ensures.kept masters ∙ both.first;
        body = (
          record {
            second = second;
            is_second = beside;
            current = refl;
            coming = both.coming;
            is_coming = both.is_coming;
            sealed = both.is_second;
            apart = stands_for_none masters (second_token token second) (λ master is same. both.other master is (sym patterns ∙ same)) (λ master is same. both.others master is (sym patterns ∙ same));
            body = body;
          },
          refl,
        );
      },
    )
    (ap (λ p. Some (row label p second.pattern)) same ∙ ap (λ p. Some (row label (pattern_for masters key) p)) ahead)
    (apart_same (row_directory rows) c.cell-cell.result label c.cell-cell.ensures.rows.apart held) (written_ahead_is masters rows s label c.cell-cell.result clear held)
    m0 m1 start c.change.result c.change.new.self c.change.ensures.changes.cell c.change.ensures.changes.memory.done)

pub cell-cell-requires : goal.cell-cell-requires
cell-cell-requires g c = c.requires.held

pub label-label-requires : goal.label-label-requires
label-label-requires g c = c.requires.held

pub change-requires-clause-within : goal.change-requires-clause-within
change-requires-clause-within g c = c.cell-cell.ensures.within

pub change-requires-clause-size : goal.change-requires-clause-size
change-requires-clause-size g c = c.requires.size

pub change-requires-clause-settled : goal.change-requires-clause-settled
change-requires-clause-settled g c = c.requires.settled

pub change-requires-clause-holds : goal.change-requires-clause-holds
change-requires-clause-holds g c = c.requires.holds

pub returns-clause-changes : goal.returns-clause-changes
returns-clause-changes g c =
    let rows : List (Option Row) = c.args.self.now in
    let label : List ℕ = c.label-label.result in
    let now = (label_or (get_or rows c.args.place None)) in
    let token : List ℕ = c.args.token.now in
    let second : Second = c.args.second.now in
    changed_as g.D.Disk.medium g.D.Disk.faults c.cell-cell.result c.args.place c.write_record.new.body (both_body now (renewed token) second) (Some (row label c.pattern_in-pattern.result second.pattern)) (Some (both_row now token second.pattern)) rows c.change.new.self
    c.args.lease.now _ c.args.store.now c.change.new.store c.change.result c.cell-cell.ensures.cell
    (wrote_both label now c.kept_token-token.result token c.write_record.new.body second c.label-label.ensures.label c.kept_token-token.ensures.renewed c.write_record.ensures.body)
    (both_row_is label now token c.pattern_in-pattern.result second.pattern c.label-label.ensures.label c.pattern_in-pattern.ensures) refl c.change.ensures.changes

pub returns-clause-faults : goal.returns-clause-faults
returns-clause-faults g c = c.change.ensures.faults
