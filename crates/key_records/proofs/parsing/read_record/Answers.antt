use Rattle.std.proofs.Common.{◌≡◌, ℕ, List, true, false, refl, sym, ap, subst, ◌∙◌}
use Rattle.std.specs.Prelude.{slice_index}
use Rattle.key_cells.specs.Lease.{bench_of}
use Rattle.verb_rules.specs.Keys.{keys_of}
use Rattle.key_tokens.specs.Denotes.{MasterKeys}
use Rattle.record_bodies.specs.Entries.{remembered}
use Rattle.record_bodies.specs.Labels.{IsLabel}
use Rattle.record_bodies.specs.RecordBody.{record_body, label_in, token_in, second_in, IsWhat}
use Rattle.record_bodies.specs.declared.rows.Second.{Second}
use Rattle.record_bodies.proofs.BodyLaws.{Spelled, spelled, spelled_label, spelled_again, spelled_what, entry_is, entry_reads}
use Rattle.key_records.proofs.parsing.read_record.Goals as goal
use Rattle.key_cells.proofs.AnswerLemmas.{not_true}

-- the pieces of a body as the code has them
module _ (masters : MasterKeys) (bytes : List ℕ) (kind : ℕ) (label token : List ℕ) (second : Second) (kinds : kind ≡ slice_index bytes 0) (labels : label ≡ label_in bytes)
    (tokens : token ≡ token_in bytes) (seconds : second ≡ second_in bytes) where
  again : Spelled masters bytes → bytes ≡ record_body kind label token second
  again s =
      spelled_again masters bytes s
      ∙ ap (λ k. record_body k (label_in bytes) (token_in bytes) (second_in bytes)) (sym kinds)
      ∙ ap (λ l. record_body kind l (token_in bytes) (second_in bytes)) (sym labels)
      ∙ ap (λ t. record_body kind label t (second_in bytes)) (sym tokens)
      ∙ ap (record_body kind label token) (sym seconds)

  what : Spelled masters bytes → IsWhat masters kind token second
  what s =
      subst (λ (k : ℕ). IsWhat masters k token second) (sym kinds)
      (subst (λ (t : List ℕ). IsWhat masters (slice_index bytes 0) t second) (sym tokens)
      (subst (λ (x : Second). IsWhat masters (slice_index bytes 0) (token_in bytes) x) (sym seconds) (spelled_what masters bytes s)))

pub returns-in-None-clause-none : goal.returns-in-None-clause-none
returns-in-None-clause-none g c _ e reads =
    let bytes = (bench_of c.args.lease.now).body in
    let s = spelled (keys_of g.m) bytes e c.requires.1.1 reads in
    c.in-None.ensures.none refl (subst IsLabel (sym (ap label_in c.body.ensures ∙ spelled_label (keys_of g.m) bytes s)) s.is_label)

pub returns-then-not-is_record-clause-none : goal.returns-then-not-is_record-clause-none
returns-then-not-is_record-clause-none g c _ e reads =
    let bytes = (bench_of c.args.lease.now).body in
    let s = spelled (keys_of g.m) bytes e c.requires.1.1 reads in
    not_true c.is_record.result c.if-not-is_record.true (c.is_record.ensures.body.1 (c.body-5.ensures
    ∙ again (keys_of g.m) bytes (slice_index c.body-2.result.now 0) c.in-Some.label c.token_in-token.result c.second_in-second.result (ap (λ b. slice_index b 0) c.body-2.ensures)
    (c.in-Some.ensures.found ∙ ap label_in c.body.ensures) (c.token_in-token.ensures.token ∙ ap token_in c.body-3.ensures) (c.second_in-second.ensures.second ∙ ap second_in c.body-4.ensures) s))

pub returns-in-None-what_in-clause-none : goal.returns-in-None-what_in-clause-none
returns-in-None-what_in-clause-none g c _ e reads =
    let bytes = (bench_of c.args.lease.now).body in
    let s = spelled (keys_of g.m) bytes e c.requires.1.1 reads in
    c.in-None-what_in.ensures.none refl
    (what (keys_of g.m) bytes (slice_index c.body-2.result.now 0) c.in-Some.label c.token_in-token.result c.second_in-second.result (ap (λ b. slice_index b 0) c.body-2.ensures)
    (c.in-Some.ensures.found ∙ ap label_in c.body.ensures) (c.token_in-token.ensures.token ∙ ap token_in c.body-3.ensures) (c.second_in-second.ensures.second ∙ ap second_in c.body-4.ensures) s)

pub returns-in-Some-what_in-clause-reads : goal.returns-in-Some-what_in-clause-reads
returns-in-Some-what_in-clause-reads g c _ =
    let bytes = (bench_of c.args.lease.now).body in
    let is : bytes ≡ record_body (slice_index c.body-2.result.now 0) c.in-Some.label c.token_in-token.result c.second_in-second.result = sym c.body-5.ensures ∙ c.is_record.ensures.body.0 c.if-not-is_record.false in
    entry_reads (keys_of g.m) bytes (slice_index c.body-2.result.now 0) c.in-Some.label c.token_in-token.result c.second_in-second.result is c.in-Some.ensures.label c.token_in-token.ensures.bytes
    (record { pattern = c.second_in-second.ensures.pattern.size; left = c.second_in-second.ensures.left.size; right = c.second_in-second.ensures.right.size }) (c.in-Some-what_in.ensures.some refl)

pub returns-in-Some-what_in-clause-row : goal.returns-in-Some-what_in-clause-row
returns-in-Some-what_in-clause-row g c =
    let bytes = (bench_of c.args.lease.now).body in
    let is : bytes ≡ record_body (slice_index c.body-2.result.now 0) c.in-Some.label c.token_in-token.result c.second_in-second.result = sym c.body-5.ensures ∙ c.is_record.ensures.body.0 c.if-not-is_record.false in
    c.in-Some-what_in.ensures.row
    ∙ ap (remembered (keys_of g.m)) (sym (entry_is (keys_of g.m) bytes (slice_index c.body-2.result.now 0) c.in-Some.label c.token_in-token.result c.second_in-second.result is c.in-Some.ensures.label c.token_in-token.ensures.bytes
    (record { pattern = c.second_in-second.ensures.pattern.size; left = c.second_in-second.ensures.left.size; right = c.second_in-second.ensures.right.size }) (c.in-Some-what_in.ensures.some refl)))
