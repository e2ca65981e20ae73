use Rattle.std.proofs.Common.{◌≡◌, ◌<◌, ℕ, List, Bool, true, false, Option, Some, None, Result, Ok, Err, get_or}
use Rattle.std.proofs.Common.{refl, sym, ap, subst, ◌∙◌}
use Rattle.std.proofs.lemmas.Bool.{false≢true}
use Rattle.std.specs.Prelude.{is_some, slice_index, IfOk}
use Rattle.device_cells.proofs.Media.{told_joined, told_map}
use Rattle.device_cells.specs.Cells.{body}
use Rattle.device_cells.specs.Medium.{Medium, Told}
use Rattle.key_tokens.specs.Denotes.{MasterKeys}
use Rattle.key_records.specs.Changes.{IsReadOf, ReadsToken, ahead_at, has_key}
use Rattle.record_bodies.specs.RecordBody.{IsTokenOf, token_in, second_in, held_token, ReadsRow, StandsAs}
use Rattle.record_bodies.specs.Entries.{Entry, label_or}
use Rattle.record_bodies.specs.StoreStands.{HoldsRows, KeepsLabels, entry_at}
use Rattle.key_records.specs.declared.faults.RecordFault.{RecordFault}
use Rattle.key_records.specs.declared.faults.RecordFault.TheVariants.{DiskFault}
use Rattle.record_bodies.specs.declared.rows.Row.{Row}
use Rattle.key_records.proofs.ReadLaws.{not_damaged, read_token}
use Rattle.record_bodies.proofs.PieceLaws.{token_is_held}
use Rattle.key_records.proofs.records.Records.read.Goals as goal
use Rattle.key_cells.specs.Lease.{bench_of}
use Rattle.key_cells.proofs.AnswerLemmas.{no_err}

-- a null record
null_token : (masters : MasterKeys) (o : Option Entry) (found : Bool) (token out : List ℕ) → found ≡ false → ReadsToken masters o found token → ReadsToken masters o false out
null_token masters None found token out none reads = reads
null_token masters (Some e) found token out none reads =
    (sym none ∙ reads.0, λ key is. absurd (false≢true (sym none ∙ reads.0 ∙ ap (λ w. is_some w) is)))

-- the token of a label, in the body that was read of its cell
module _ (rows : List (Option Row)) (place : ℕ) (row : Row) (bytes token image : List ℕ) (within : place < 1024) (held : get_or rows place None ≡ Some row) (here : bytes ≡ body image place)
    (is : IsTokenOf bytes row token) where
  token_read : (masters : MasterKeys) (s : List (Option Entry)) → KeepsLabels masters rows s image → ReadsRow bytes (Some row) → true ≡ is_some row.pattern → ReadsToken masters (entry_at s place) true token
  token_read masters s keeps reads some =
      subst (λ (b : Bool). ReadsToken masters (entry_at s place) b token) (sym some)
      (subst (λ (t : List ℕ). ReadsToken masters (entry_at s place) (is_some row.pattern) t)
      (ap (λ b. held_token (is_some row.ahead) (slice_index b 0) (token_in b) (second_in b)) (sym here) ∙ token_is_held bytes row token reads.0 is)
      (read_token masters rows s image place row keeps held within))

  token_stands : StandsAs (body image place) (label_or (get_or rows place None)) token (ahead_at (get_or rows place None))
  token_stands =
      subst (λ (o : Option Row). StandsAs (body image place) (label_or o) token (ahead_at o)) (sym held)
      (subst (λ (b : List ℕ). StandsAs b row.label token row.ahead) here is.stands)

-- what is told of a body that was read, by what was judged of it
module _ (m : Medium) (rows : List (Option Row)) (place : ℕ) (bytes out : List ℕ) (within : place < 1024) where
  abbrev IsThere : Type 0
  IsThere = Told m (λ image. bytes ≡ body image place)

  token_of_row : (masters : MasterKeys) (s : List (Option Entry)) (o : Option Row) (found : Bool) → get_or rows place None ≡ o → Told m (KeepsLabels masters rows s) → IsThere
      → IsReadOf o bytes found out → found ≡ has_key o → Told m (λ _. ReadsToken masters (entry_at s place) found out)
  token_of_row masters s None found is keeps there own null = absurd (false≢true own.held)
  token_of_row masters s (Some row) true is keeps there own null =
      told_joined m (KeepsLabels masters rows s) (λ image. bytes ≡ body image place) (λ _. ReadsToken masters (entry_at s place) true out) keeps there
      (λ image k here. token_read rows place row bytes out image within is here (own.token refl) masters s k own.known null)
  token_of_row masters s (Some row) false is keeps there own null =
      told_map m (KeepsLabels masters rows s) (λ _. ReadsToken masters (entry_at s place) false out) keeps
      (λ image k. null_token masters (entry_at s place) (is_some row.pattern) _ out (sym null) (read_token masters rows s image place row k is within))

  token_told : (masters : MasterKeys) (s : List (Option Entry)) (result : Result Bool RecordFault) → Told m (KeepsLabels masters rows s) → ((result ≡ Err DiskFault → ⊥) → IsThere)
      → IfOk result (λ found. IsReadOf (get_or rows place None) bytes found out) → IfOk result (λ found. found ≡ has_key (get_or rows place None))
      → IfOk result (λ found. Told m (λ _. ReadsToken masters (entry_at s place) found out))
  token_told masters s (Ok found) keeps there own null = token_of_row masters s (get_or rows place None) found refl keeps (there (λ is. no_err is)) own null
  token_told masters s (Err fault) keeps there own null = tt

  stands_of_row : (o : Option Row) → get_or rows place None ≡ o → IsThere → IsReadOf o bytes true out
      → Told m (λ image. StandsAs (body image place) (label_or (get_or rows place None)) out (ahead_at (get_or rows place None)))
  stands_of_row None is there own = absurd (false≢true own.held)
  stands_of_row (Some row) is there own =
      told_map m (λ image. bytes ≡ body image place) (λ image. StandsAs (body image place) (label_or (get_or rows place None)) out (ahead_at (get_or rows place None))) there
      (λ image here. token_stands rows place row bytes out image within is here (own.token refl))

pub returns-clause-token : goal.returns-clause-token
returns-clause-token g c masters s keeps =
    token_told (g.D.Disk.medium c.args.store.now) c.args.self.now c.args.place (bench_of c.read_held.new.lease).body c.read_held.new.out c.read_held.ensures.within masters s c.read_held.result keeps
    c.read_held.ensures.told c.read_held.ensures.own c.read_held.ensures.null

pub returns-clause-bytes : goal.returns-clause-bytes
returns-clause-bytes g c is =
    let bytes : List ℕ = (bench_of c.read_held.new.lease).body in
    let own : IsReadOf (get_or c.args.self.now c.args.place None) bytes true c.read_held.new.out =
    subst (λ (r : Result Bool RecordFault). IfOk r (λ found. IsReadOf (get_or c.args.self.now c.args.place None) bytes found c.read_held.new.out)) is c.read_held.ensures.own in
    stands_of_row (g.D.Disk.medium c.args.store.now) c.args.self.now c.args.place bytes c.read_held.new.out c.read_held.ensures.within (get_or c.args.self.now c.args.place None) refl
    (c.read_held.ensures.told (λ failed. no_err (sym is ∙ failed))) own

pub returns-clause-damaged : goal.returns-clause-damaged
returns-clause-damaged g c n is =
    let m = g.D.Disk.medium c.args.store.now in
    let rows : List (Option Row) = c.args.self.now in
    let bytes : List ℕ = (bench_of c.read_held.new.lease).body in
    let misread = c.read_held.ensures.misread n is in (
      misread.0,
      told_joined m (HoldsRows rows) (λ image. bytes ≡ body image c.args.place) (λ _. ⊥) c.requires.holds (c.read_held.ensures.told (λ failed. not_damaged n (sym failed ∙ is)))
          (λ image holds here. misread.1 (subst (λ (b : List ℕ). ReadsRow b (get_or rows c.args.place None)) (sym here) (holds.reads c.args.place c.read_held.ensures.within))),
    )

pub returns-clause-misread : goal.returns-clause-misread
returns-clause-misread g c n is = (c.read_held.ensures.misread n is).1
