-- What the sink has of the records that were read, whatever the trail tells of its bytes.
use Rattle.std.proofs.Common.{◌≡◌, ◌⊎◌, ◌≤◌, ◌<◌, ◌+◌, ◌%◌, ◌^◌, inl, inr, ℕ, List, [], ◌∷◌, ◌++◌, length, Option, Result, Ok, Err, refl, sym, ap, subst, ◌∙◌, append_assoc, arith}
use Rattle.std.specs.List.{All}
use Rattle.std.proofs.lemmas.List.{append-nil, length-append}
use Rattle.std.proofs.lemmas.List.Elements.{All-append, All-nil, All-cons}
use Rattle.device_cells.specs.WhereTold.{WhereTold}
use Rattle.device_cells.proofs.WhereToldLemmas.{told_weaker, told_then, told_same}
use Rattle.line_service.specs.Sending.{GotPart}
use Rattle.audit_trail.specs.Entries.{IsEntry}
use Rattle.audit_trail.specs.declared.entries.Entry.{Entry}
use Rattle.audit_trail.specs.declared.faults.TrailFault.{TrailFault}
use Rattle.audit_trail.specs.declared.faults.TrailFault.TheVariants.{DiskFault, Damaged}
use Rattle.audited_service.specs.Lines.{record_line, held_from, lines_from}
use Rattle.audited_service.specs.Listing.{ListsAsRead}
use Rattle.audited_service.specs.Sending.{SendsSome}
use Rattle.audited_service.specs.declared.listing.ListFault.{ListFault}
use Rattle.audited_service.specs.declared.listing.ListFault.TheVariants.{WriteFault, Trail}

-- one line more
lines_from_more : (number : ℕ) (es : List Entry) (e : Entry) → lines_from number (es ++ e ∷ []) ≡ lines_from number es ++ record_line (number + length es) e
lines_from_more number [] e = append-nil (record_line number e) ∙ ap (λ k. record_line k e) (omega arith)
lines_from_more number (x ∷ es) e =
    ap (λ bytes. record_line number x ++ bytes) (lines_from_more (number + 1) es e ∙ ap (λ k. lines_from (number + 1) es ++ record_line k e) (omega arith))
    ∙ sym (append_assoc (record_line number x) (lines_from (number + 1) es) (record_line (number + length (x ∷ es)) e))

-- the lines of the numbers from `first` on and below `number`, each of some entry
pub record HasRead (first number : ℕ) (before now : Option (List ℕ)) : Type 0 where
  pub entries : List Entry
  pub forms : All IsEntry entries
  pub count : first + length entries ≡ number
  pub held : WhereTold before now (λ x y. y ≡ x ++ lines_from first entries)

pub read_none : (first number : ℕ) (a : Option (List ℕ)) → first ≡ number → HasRead first number a a
read_none first number a same = record {
  entries = [];
  forms = All-nil IsEntry;
  count = omega (arith, same);
  held = told_same a (λ x y. y ≡ x ++ []) (λ x. sym (append-nil x));
}

module _ (first number : ℕ) (a b c : Option (List ℕ)) (before : HasRead first number a b) (e : Entry) (is : IsEntry e) where
  abbrev entries_more : List Entry
  entries_more = before.entries ++ e ∷ []

  lines_more : lines_from first entries_more ≡ lines_from first before.entries ++ record_line number e
  lines_more = lines_from_more first before.entries e ∙ ap (λ k. lines_from first before.entries ++ record_line k e) before.count

  forms_more : All IsEntry entries_more
  forms_more = All-append IsEntry before.entries (e ∷ []) before.forms (All-cons IsEntry e [] is (All-nil IsEntry))

  count_more : first + length entries_more ≡ number + 1
  count_more = omega (arith, length-append before.entries (e ∷ []), before.count)

  -- the line of one number more
  pub read_more : WhereTold b c (λ x y. y ≡ x ++ record_line number e) → HasRead first (number + 1) a c
  read_more sent = record {
    entries = entries_more;
    forms = forms_more;
    count = count_more;
    held = told_then a b c (λ x y. y ≡ x ++ lines_from first before.entries) (λ x y. y ≡ x ++ record_line number e) (λ x y. y ≡ x ++ lines_from first entries_more)
        (λ x y z one two.
        two ∙ ap (λ bytes. bytes ++ record_line number e) one ∙ append_assoc x (lines_from first before.entries) (record_line number e)
        ∙ ap (λ bytes. x ++ bytes) (sym lines_more))
        before.held sent;
  }

  -- a part of it
  part_sent : WhereTold b c (λ x y. GotPart x y (record_line number e)) → WhereTold a c (λ x y. (missing : List ℕ) × (y ++ missing ≡ x ++ lines_from first entries_more))
  part_sent part =
      told_then a b c (λ x y. y ≡ x ++ lines_from first before.entries) (λ x y. GotPart x y (record_line number e))
      (λ x y. (missing : List ℕ) × (y ++ missing ≡ x ++ lines_from first entries_more))
      (λ x y z one two. (
        two.missing,
        ap (λ bytes. bytes ++ two.missing) two.held ∙ append_assoc y two.sent two.missing ∙ ap (λ bytes. y ++ bytes) (sym two.parts)
            ∙ ap (λ bytes. bytes ++ record_line number e) one ∙ append_assoc x (lines_from first before.entries) (record_line number e)
            ∙ ap (λ bytes. x ++ bytes) (sym lines_more),
      ))
      before.held part

-- ---- how a listing ends

-- with the lines of all numbers
pub read_all : (next number : ℕ) (a b : Option (List ℕ)) → next ≤ 2 ^ 63 → number ≡ next → HasRead (held_from next) number a b → ListsAsRead next (Ok tt) a b
read_all next number a b low all has = record {
  low = low;
  entries = has.entries;
  forms = has.forms;
  within = omega (arith, has.count, all);
  done = (omega (arith, has.count, all), has.held);
  cut = tt;
  damaged = λ cell wrong. cc;
}

abbrev Faults : ListFault → (ℕ → Type 0) → Type 0
Faults fault P = (cell : ℕ) → ◌≡◌ {A = Result (Unit {0}) ListFault} (Err fault) (Err (Trail (Damaged cell))) → P cell

-- behind the lines of some
read_some : (next number : ℕ) (fault : ListFault) (a b : Option (List ℕ)) → next ≤ 2 ^ 63 → number ≤ next → Faults fault (λ cell. (number < next) × (cell ≡ number % 4096))
    → HasRead (held_from next) number a b → ListsAsRead next (Err fault) a b
read_some next number fault a b low below names has = record {
  low = low;
  entries = has.entries;
  forms = has.forms;
  within = omega (arith, has.count, below);
  done = tt;
  cut = told_weaker a b (λ x y. y ≡ x ++ lines_from (held_from next) has.entries)
      (λ x y. (missing : List ℕ) × (y ++ missing ≡ x ++ lines_from (held_from next) has.entries)) (λ x y is. ([], append-nil y ∙ is)) has.held;
  damaged = λ cell is.
      let named = names cell is in (omega (arith, has.count, named.0), named.1 ∙ ap (λ (k : ℕ). k % 4096) (sym has.count), has.held);
}

-- where the trail failed nothing was sent of the next line, and where the sink failed a part of it
pub read_part : (next number : ℕ) (fault : ListFault) (a b c : Option (List ℕ)) → next ≤ 2 ^ 63 → number < next → HasRead (held_from next) number a b
    → SendsSome number (Err fault) b c → ((f : TrailFault) → ◌≡◌ {A = Result (Unit {0}) ListFault} (Err fault) (Err (Trail f)) → c ≡ b)
    → ((cell : ℕ) → ◌≡◌ {A = Result (Unit {0}) ListFault} (Err fault) (Err (Trail (Damaged cell))) → cell ≡ number % 4096) → ListsAsRead next (Err fault) a c
read_part next number WriteFault a b c low below has sends unsent named =
    let part = sends.cut refl in
    record {
      low = low;
      entries = has.entries ++ part.0 ∷ [];
      forms = forms_more (held_from next) number a b c has part.0 part.1;
      within = omega (arith, count_more (held_from next) number a b c has part.0 part.1, below);
      done = tt;
      cut = part_sent (held_from next) number a b c has part.0 part.1 part.2;
      damaged = λ cell wrong. cc;
    }
read_part next number (Trail f) a b c low below has sends unsent named =
    subst (λ (o : Option (List ℕ)). ListsAsRead next (Err (Trail f)) a o) (sym (unsent f refl))
    (read_some next number (Trail f) a b low (omega (arith, below)) (λ cell is. (below, named cell is)) has)

-- nothing was sent: the first record of a trail may be that of any cell
pub read_nothing : (fault : TrailFault) (a : Option (List ℕ)) → (fault ≡ DiskFault) ⊎ ((cell : ℕ) × (cell < 4096) × (fault ≡ Damaged cell)) → (next : ℕ) × ListsAsRead next (Err (Trail fault)) a a
read_nothing fault a (inl failed) =
    (0, read_some 0 0 (Trail fault) a a (omega arith) (omega arith) (λ cell is. absurd (cc (failed, is))) (read_none 0 0 a refl))
read_nothing fault a (inr named) =
    let first : ℕ = named.0 in
    let below : first < 4096 = named.1 in
    let from : held_from (first + 4096) ≡ first = omega arith in (
      first + 4096,
      read_some (first + 4096) first (Trail fault) a a (omega arith) (omega arith) (λ cell is. (omega arith, of_cell first cell below named.2 is)) (read_none (held_from (first + 4096)) first a from),
    )
  where
    of_cell : (first cell : ℕ) → first < 4096 → fault ≡ Damaged first → ◌≡◌ {A = Result (Unit {0}) ListFault} (Err (Trail fault)) (Err (Trail (Damaged cell))) → cell ≡ first % 4096
    of_cell first cell below is told = let same : cell ≡ first = cc (is, told) in omega (arith, same, below)
