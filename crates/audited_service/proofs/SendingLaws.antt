-- What the sink has of a listing, line after line.
use Rattle.std.proofs.Common.{◌≡◌, ◌≤◌, ◌<◌, ◌+◌, ◌%◌, ℕ, List, ◌++◌, length, Option, Some, Result, Ok, Err, sym, ap, subst, ◌∙◌, append_assoc, arith}
use Rattle.std.proofs.lemmas.List.{append-nil, length-append}
use Rattle.device_cells.specs.Cells.{body}
use Rattle.device_cells.specs.Medium.{Medium, Told}
use Rattle.device_cells.specs.WhereTold.{WhereTold}
use Rattle.device_cells.proofs.Media.{told_from, told_at}
use Rattle.device_cells.proofs.WhereToldLemmas.{told_weaker, told_then, told_same}
use Rattle.line_service.specs.Devices.{TellsFault}
use Rattle.line_service.specs.Sending.{GotPart, Grows}
use Rattle.audit_trail.specs.Entries.{entry_at}
use Rattle.audit_trail.specs.RecordBody.{Spells}
use Rattle.audit_trail.specs.TrailStands.{IsTrail, StandsForTrail, IsHeld}
use Rattle.audit_trail.specs.declared.entries.Entry.{Entry}
use Rattle.audit_trail.specs.declared.faults.TrailFault.{TrailFault}
use Rattle.audit_trail.specs.declared.faults.TrailFault.TheVariants.{DiskFault, Damaged}
use Rattle.audit_trail.proofs.BodyLaws.{one_entry}
use Rattle.audit_trail.proofs.TrailLaws.{number_is}
use Rattle.audited_service.specs.Lines.{record_line, held_from, lines_below, listing}
use Rattle.audited_service.specs.Listing.{GotLines, Listed}
use Rattle.audited_service.specs.Sending.{SendsLine}
use Rattle.audited_service.specs.declared.listing.ListFault.{ListFault}
use Rattle.audited_service.specs.declared.listing.ListFault.TheVariants.{Trail}
use Rattle.audited_service.proofs.LineLaws.{lines_below_first, lines_below_more, listing_rest}

-- ---- the entry that is read

-- a record that was read is the entry of its number, in each list for which the trail stands
pub entry_read : (image : List ℕ) (next number : ℕ) (e : Entry) (es : List Entry) → StandsForTrail image next → IsHeld number next → Spells (body image (number % 4096)) number e → IsTrail image es → e ≡ entry_at es number
entry_read image next number e es stands held spells trail =
    let long : length es ≡ next = number_is image next es stands trail in
    one_entry (body image (number % 4096)) number number e (entry_at es number) spells (trail.held number (omega (arith, long, held.0)) (omega (arith, long, held.1)))

pub told_entry : (m : Medium) (next number : ℕ) (e : Entry) (P : Entry → Type 0) → IsHeld number next → Told m (λ image. StandsForTrail image next) → Told m (λ image. Spells (body image (number % 4096)) number e) → P e
    → Told m (λ image. (es : List Entry) → IsTrail image es → P (entry_at es number))
told_entry m next number e P held stands spells holds =
    told_from m.content (λ image. (es : List Entry) → IsTrail image es → P (entry_at es number)) (λ image is es trail.
    subst P (entry_read image next number e es (told_at m.content (λ c. StandsForTrail c next) image is stands) held (told_at m.content (λ c. Spells (body c (number % 4096)) number e) image is spells) trail) holds)

-- ---- each list of entries for which a trail stands

-- P holds of each list of entries
abbrev pub OfEntries : Medium → (List Entry → Type 0) → Type 0
OfEntries m P = Told m (λ image. (es : List Entry) → IsTrail image es → P es)

module _ (m : Medium) (next : ℕ) (stands : Told m (λ image. StandsForTrail image next)) where
  long_at : (image : List ℕ) (es : List Entry) → m.content ≡ Some image → IsTrail image es → length es ≡ next
  long_at image es is trail = number_is image next es (told_at m.content (λ c. StandsForTrail c next) image is stands) trail

  pub of_each : (P : List Entry → Type 0) → ((es : List Entry) → length es ≡ next → P es) → OfEntries m P
  of_each P each =
      told_from m.content (λ image. (es : List Entry) → IsTrail image es → P es) (λ image is es trail. each es (long_at image es is trail))

  pub of_both : (P Q R : List Entry → Type 0) → OfEntries m P → OfEntries m Q → ((es : List Entry) → length es ≡ next → P es → Q es → R es) → OfEntries m R
  of_both P Q R first second both =
      told_from m.content (λ image. (es : List Entry) → IsTrail image es → R es) (λ image is es trail.
      both es (long_at image es is trail)
      (told_at m.content (λ c. (fs : List Entry) → IsTrail c fs → P fs) image is first es trail)
      (told_at m.content (λ c. (fs : List Entry) → IsTrail c fs → Q fs) image is second es trail))

-- what can't be, where the trail tells its content
pub of_none : (m : Medium) (result : Result (Unit {0}) ListFault) → ((cell : ℕ) → result ≡ Err (Trail (Damaged cell)) → Told m (λ image. ⊥)) → OfEntries m (λ es. (cell : ℕ) → result ≡ Err (Trail (Damaged cell)) → ⊥)
of_none m result never =
    told_from m.content (λ image. (es : List Entry) → IsTrail image es → (cell : ℕ) → result ≡ Err (Trail (Damaged cell)) → ⊥) (λ image is es trail cell damaged.
    told_at m.content (λ c. ⊥) image is (never cell damaged))

-- ---- what the sink has

abbrev pub HasLinesBelow : List Entry → ℕ → Option (List ℕ) → Option (List ℕ) → Type 0
HasLinesBelow es next before now = WhereTold before now (λ x y. y ≡ x ++ lines_below es next)

pub no_line : (es : List Entry) (next : ℕ) (held : Option (List ℕ)) → next ≤ held_from (length es) → HasLinesBelow es next held held
no_line es next held low = told_same held (λ x y. y ≡ x ++ lines_below es next) (λ x. sym (append-nil x) ∙ ap (λ bytes. x ++ bytes) (sym (lines_below_first es next low)))

module _ (es : List Entry) (number : ℕ) (from : held_from (length es) ≤ number) (a b c : Option (List ℕ)) where
  pub one_line : HasLinesBelow es number a b → WhereTold b c (λ x y. y ≡ x ++ record_line number (entry_at es number)) → HasLinesBelow es (number + 1) a c
  one_line before then =
      told_then a b c (λ x y. y ≡ x ++ lines_below es number) (λ x y. y ≡ x ++ record_line number (entry_at es number)) (λ x y. y ≡ x ++ lines_below es (number + 1))
      (λ x y z first second.
      second ∙ ap (λ bytes. bytes ++ record_line number (entry_at es number)) first
      ∙ append_assoc x (lines_below es number) (record_line number (entry_at es number))
      ∙ ap (λ bytes. x ++ bytes) (sym (lines_below_more es number from))) before then

  pub part_of_listing : number < length es → HasLinesBelow es number a b → WhereTold b c (λ x y. GotPart x y (record_line number (entry_at es number))) → WhereTold a c (λ x y. GotPart x y (listing es))
  part_of_listing below before then =
      told_then a b c (λ x y. y ≡ x ++ lines_below es number) (λ x y. GotPart x y (record_line number (entry_at es number))) (λ x y. GotPart x y (listing es))
      (λ x y z first second. joined x y z first second) before then
    where
      rest : List ℕ
      rest = (listing_rest es number from below).0

      joined : (x y z : List ℕ) → y ≡ x ++ lines_below es number → GotPart y z (record_line number (entry_at es number)) → GotPart x z (listing es)
      joined x y z first second = record {
        sent = lines_below es number ++ second.sent;
        missing = second.missing ++ rest;
        held = second.held ∙ (ap (λ bytes. bytes ++ second.sent) first ∙ append_assoc x (lines_below es number) second.sent);
        parts =
            (listing_rest es number from below).1
            ∙ ap (λ bytes. (lines_below es number ++ bytes) ++ rest) second.parts
            ∙ ap (λ bytes. bytes ++ rest) (sym (append_assoc (lines_below es number) second.sent second.missing))
            ∙ append_assoc (lines_below es number ++ second.sent) second.missing rest;
        some = omega (arith, length-append second.missing rest, second.some);
      }

pub grew_line : (line : List ℕ) (a b : Option (List ℕ)) → WhereTold a b (λ x y. y ≡ x ++ line) → WhereTold a b Grows
grew_line line a b = told_weaker a b (λ x y. y ≡ x ++ line) Grows (λ x y is. (line, is))

pub grew_part : (line : List ℕ) (a b : Option (List ℕ)) → WhereTold a b (λ x y. GotPart x y line) → WhereTold a b Grows
grew_part line a b = told_weaker a b (λ x y. GotPart x y line) Grows (λ x y part. (part.sent, part.held))

-- of a record that wasn't read nothing is said
pub never_cut : (m : Medium) (number : ℕ) (fault : TrailFault) (held : Option (List ℕ)) → OfEntries m (λ es. SendsLine (record_line number (entry_at es number)) (Err (Trail fault)) held held)
never_cut m number fault held =
    told_from m.content (λ image. (es : List Entry) → IsTrail image es → SendsLine (record_line number (entry_at es number)) (Err (Trail fault)) held held)
    (λ image is es trail. record { done = tt; cut = λ wrong. cc })

-- a count of faults that was as before
pub quiet_before : {a b now : ℕ} {Failed : Type 0} → b ≡ a → TellsFault b now Failed → TellsFault a now Failed
quiet_before {a} {b} {now} {Failed} quiet tells = subst (λ (k : ℕ). TellsFault k now Failed) quiet tells

-- ---- how a listing ends

pub listed_all : (es : List Entry) (number : ℕ) (a b : Option (List ℕ)) → number ≡ length es → HasLinesBelow es number a b → Listed es (Ok tt) a b
listed_all es number a b all has = record {
  done = told_weaker a b (λ x y. y ≡ x ++ lines_below es number) (λ x y. y ≡ x ++ listing es) (λ x y is. is ∙ ap (λ n. x ++ lines_below es n) all) has;
  cut = λ is. cc;
  lost = λ is. cc;
  undamaged = λ cell is. cc;
}

-- the line of this number wasn't sent whole, and of the sink that a trail's fault ends nothing has changed
pub listed_part : (es : List Entry) (number : ℕ) (fault : ListFault) (a b c : Option (List ℕ)) → held_from (length es) ≤ number → number < length es → HasLinesBelow es number a b
    → SendsLine (record_line number (entry_at es number)) (Err fault) b c
    → ((cell : ℕ) → ◌≡◌ {A = Result (Unit {0}) ListFault} (Err fault) (Err (Trail (Damaged cell))) → ⊥)
    → (◌≡◌ {A = Result (Unit {0}) ListFault} (Err fault) (Err (Trail DiskFault)) → c ≡ b) → Listed es (Err fault) a c
listed_part es number fault a b c from below has sends undamaged unsent = record {
  done = tt;
  cut = λ is. part_of_listing es number from a b c below has (sends.cut is);
  lost = λ is.
      told_weaker a c (λ x y. y ≡ x ++ lines_below es number) (GotLines es) (λ x y held. record { next = number; within = omega (arith, below); held = held })
      (subst (HasLinesBelow es number a) (sym (unsent is)) has);
  undamaged = undamaged;
}
