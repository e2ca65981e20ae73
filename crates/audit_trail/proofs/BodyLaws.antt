-- The body of a record, and what it spells.
use Rattle.std.proofs.Common.{◌≡◌, ◌≢◌, ◌<◌, ◌+◌, ◌^◌, ℕ, List, [], ◌∷◌, ◌++◌, length, take, drop, get_or, replicate, refl, sym, ap, ◌∙◌, arith}
use Rattle.std.specs.Int.{to_be_bytes, from_be_bytes, w64}
use Rattle.std.specs.Prelude.{slice_index, slice_range}
use Rattle.std.proofs.lemmas.List.{append_assoc, take_at, drop_at, length-append, get_or_at}
use Rattle.std.proofs.lemmas.Nat.{from_be_bytes-to_be_bytes_8}
use Rattle.audit_trail.specs.Entries.{IsEntry}
use Rattle.audit_trail.specs.RecordBody.{record_body, blank_body, Spells}
use Rattle.audit_trail.specs.Reading.{entry_in, record_in}
use Rattle.audit_trail.proofs.FieldLaws.{role_size, verb_size, label_size}
use Rattle.audit_trail.specs.declared.bodies.Record.{Record}
use Rattle.audit_trail.specs.declared.entries.Entry.{Entry}

abbrev pub made : ℕ → Entry → Record
made n e = record { number = n; entry = e }

abbrev entry_of : ℕ → List ℕ → List ℕ → List ℕ → ℕ → Entry
entry_of rule role verb label label_length = record { rule = rule; role = role; verb = verb; label = label; label_length = label_length }

piece_at : (front piece behind : List ℕ) (at n : ℕ) → length front ≡ at → length piece ≡ n → take n (drop at (front ++ (piece ++ behind))) ≡ piece
piece_at front piece behind at n long short = ap (take n) (drop_at front (piece ++ behind) at long) ∙ take_at piece behind n short

abbrev tail_of : Entry → List ℕ
tail_of e = e.label ++ replicate 99 0

pub body_right : (n : ℕ) (e : Entry) → record_body n e ≡ 1 ∷ e.rule ∷ (to_be_bytes w64 n ++ (e.role ++ (e.verb ++ (e.label_length ∷ tail_of e))))
unfolding record_body
body_right n e = simp append_assoc

blank_first : slice_index blank_body 0 ≡ 0
unfolding blank_body
blank_first = refl

one_not_zero : ◌≢◌ {A = ℕ} 1 0
one_not_zero is = omega (arith, is)

module _ (n : ℕ) (e : Entry) (is : IsEntry e) where
  number_bytes : slice_range (record_body n e) 2 10 ≡ to_be_bytes w64 n
  number_bytes = ap (λ b. slice_range b 2 10) (body_right n e) ∙ take_at (to_be_bytes w64 n) (e.role ++ (e.verb ++ (e.label_length ∷ tail_of e))) 8 refl

  rule_again : slice_index (record_body n e) 1 ≡ e.rule
  rule_again = ap (λ b. slice_index b 1) (body_right n e)

  role_again : slice_range (record_body n e) 10 18 ≡ e.role
  role_again = ap (λ b. slice_range b 10 18) (body_right n e) ∙ piece_at (to_be_bytes w64 n) e.role (e.verb ++ (e.label_length ∷ tail_of e)) 8 8 refl (role_size e is)

  long_role : length (to_be_bytes w64 n ++ e.role) ≡ 16
  long_role = length-append (to_be_bytes w64 n) e.role ∙ ap (λ k. 8 + k) (role_size e is)

  verb_again : slice_range (record_body n e) 18 28 ≡ e.verb
  verb_again =
      ap (λ b. slice_range b 18 28) (body_right n e)
      ∙ ap (λ l. take 10 (drop 16 l)) (sym (append_assoc (to_be_bytes w64 n) e.role (e.verb ++ (e.label_length ∷ tail_of e))))
      ∙ piece_at (to_be_bytes w64 n ++ e.role) e.verb (e.label_length ∷ tail_of e) 16 10 long_role (verb_size e is)

  long_verb : length ((to_be_bytes w64 n ++ e.role) ++ e.verb) ≡ 26
  long_verb = length-append (to_be_bytes w64 n ++ e.role) e.verb ∙ omega (arith, long_role, verb_size e is)

  grouped : to_be_bytes w64 n ++ (e.role ++ (e.verb ++ (e.label_length ∷ tail_of e))) ≡ ((to_be_bytes w64 n ++ e.role) ++ e.verb) ++ (e.label_length ∷ tail_of e)
  grouped = sym (append_assoc (to_be_bytes w64 n) e.role (e.verb ++ (e.label_length ∷ tail_of e))) ∙ sym (append_assoc (to_be_bytes w64 n ++ e.role) e.verb (e.label_length ∷ tail_of e))

  length_again : slice_index (record_body n e) 28 ≡ e.label_length
  length_again =
      ap (λ b. slice_index b 28) (body_right n e)
      ∙ ap (λ l. get_or l 26 0) grouped
      ∙ get_or_at ((to_be_bytes w64 n ++ e.role) ++ e.verb) e.label_length (tail_of e) 0 26 long_verb

  label_again : slice_range (record_body n e) 29 93 ≡ e.label
  label_again =
      ap (λ b. slice_range b 29 93) (body_right n e)
      ∙ ap (λ l. take 64 (drop 27 l)) (grouped ∙ sym (append_assoc ((to_be_bytes w64 n ++ e.role) ++ e.verb) (e.label_length ∷ []) (tail_of e)))
      ∙ piece_at (((to_be_bytes w64 n ++ e.role) ++ e.verb) ++ (e.label_length ∷ [])) e.label (replicate 99 0) 27 64
      (length-append ((to_be_bytes w64 n ++ e.role) ++ e.verb) (e.label_length ∷ []) ∙ ap (λ k. k + 1) long_verb) (label_size e is)

  pub record_again : n < 2 ^ 63 → record_in (record_body n e) ≡ made n e
  record_again low =
      ap (λ b. made (from_be_bytes w64 b) (entry_in (record_body n e))) number_bytes
      ∙ ap (λ k. made k (entry_in (record_body n e))) (from_be_bytes-to_be_bytes_8 n (omega (arith, low)))
      ∙ ap (λ x. made n (entry_of x (slice_range (record_body n e) 10 18) (slice_range (record_body n e) 18 28) (slice_range (record_body n e) 29 93) (slice_index (record_body n e) 28))) rule_again
      ∙ ap (λ x. made n (entry_of e.rule x (slice_range (record_body n e) 18 28) (slice_range (record_body n e) 29 93) (slice_index (record_body n e) 28))) role_again
      ∙ ap (λ x. made n (entry_of e.rule e.role x (slice_range (record_body n e) 29 93) (slice_index (record_body n e) 28))) verb_again
      ∙ ap (λ x. made n (entry_of e.rule e.role e.verb x (slice_index (record_body n e) 28))) label_again
      ∙ ap (λ x. made n (entry_of e.rule e.role e.verb e.label x)) length_again

-- a body spells one record alone
pub spelled_in : (bytes : List ℕ) (n : ℕ) (e : Entry) → Spells bytes n e → record_in bytes ≡ made n e
spelled_in bytes n e spells = ap record_in spells.body ∙ record_again n e spells.entry spells.below

pub one_number : (bytes : List ℕ) (m n : ℕ) (e f : Entry) → Spells bytes m e → Spells bytes n f → m ≡ n
one_number bytes m n e f first second = ap (λ (r : Record). r.number) (sym (spelled_in bytes m e first) ∙ spelled_in bytes n f second)

pub one_entry : (bytes : List ℕ) (m n : ℕ) (e f : Entry) → Spells bytes m e → Spells bytes n f → e ≡ f
one_entry bytes m n e f first second = ap (λ (r : Record). r.entry) (sym (spelled_in bytes m e first) ∙ spelled_in bytes n f second)

pub not_blank : (bytes : List ℕ) (n : ℕ) (e : Entry) → Spells bytes n e → bytes ≢ blank_body
not_blank bytes n e spells blank = one_not_zero (sym (ap (λ b. slice_index b 0) (spells.body ∙ body_right n e)) ∙ ap (λ b. slice_index b 0) blank ∙ blank_first)
