-- A store at rest after lines is sealed where it was sealed before them.
use Rattle.std.proofs.Common.{◌≡◌, ◌≢◌, ⊎_elim, ℕ, zero, suc, ◌+◌, ◌-◌, ◌*◌, ◌<◌, false, not, List, [], ◌∷◌, length, get_or, replicate, Option, None, Some, refl, sym, ap, ap₂, subst, ◌∙◌, true≢false, arith}
use Rattle.std.specs.Prelude.{◌++◌, Contains, min, slice_index}
use Rattle.std.proofs.lemmas.Bool.{cases_eq}
use Rattle.std.proofs.lemmas.Grind.{same_number_lists}
use Rattle.std.proofs.lemmas.List.Elements.{Contains-append_left, Contains-append_right}
use Rattle.std.proofs.lemmas.Slice.Eq.{bytes_eq-Decides}
use Rattle.cca_roles.proofs.DirectoryLaws.{none_some}
use Rattle.device_cells.specs.Cells.{body, body_at, body_place, other_body, selected}
use Rattle.device_cells.specs.SpareBytes.{SameCell}
use Rattle.device_cells.proofs.CellSteps.{get_or-range, length-range, selected_below}
use Rattle.record_bodies.specs.Entries.{Entry}
use Rattle.record_bodies.specs.RecordBody.{ReadsEntry, blank_body}
use Rattle.record_bodies.specs.StoreStands.{entry_at}
use Rattle.record_bodies.specs.Written.{written_body}
use Rattle.record_bodies.proofs.BodyLaws.{entry_blank, reads_one}
use Rattle.record_bodies.proofs.OneBody.{one_body}
use Rattle.key_tokens.specs.Denotes.{HaveDistinctPatterns, MasterKey, MasterKeys}
use Rattle.master_registers.specs.Actions.{after_action, has_wrong_state, repeats_pattern}
use Rattle.master_registers.specs.Masters.{AreApart, IsMasters, Masters, NewRegister, Empty, Partial, Full, blank_masters, has_pattern_of, is_full, new_bytes, pattern_of_master}
use Rattle.master_registers.specs.RegisterBody.{blank_body as blank_registers, registers_body}
use Rattle.master_registers.specs.declared.actions.Action.{Action}
use Rattle.master_registers.specs.declared.actions.Action.TheVariants.{First, Middle, Last, Clear, Set}
use Rattle.verb_rules.specs.Keys.{keys_of, master_key}
use Rattle.cca_machine.specs.Act.{effect}
use Rattle.cca_machine.specs.Lines.{line_outcome}
use Rattle.cca_machine.specs.State.{State, IsModuleOf, IsStoreOf}
use Rattle.cca_machine.specs.Verdict.{needed_points}
use Rattle.cca_laws.specs.Sealed.{IsAtRest, IsBlankStore, IsProper, IsSealed, IsSealedBody, IsSealedToken, WasSelected, states_along, unused_in}
use Rattle.cca_laws.proofs.CeremonyLaws.{becomes, registers_after}
use Rattle.cca_laws.proofs.LineCases.{by_line, permitted}
use Rattle.cca_laws.proofs.MoveTokens.{entry_whole}
use Rattle.cca_laws.proofs.StoredTokens.{made_before, unused_sound}
use Rattle.cca_laws.proofs.UnusedLaws.{AreMadeTokens, along_made}

-- ---- the current and the old master key have different patterns, in every state

HasApart : Masters → Type 0
HasApart m = AreApart m.current m.former

full_set : (c : NewRegister) (current : Option (List ℕ)) → not (is_full c) ≡ false → has_pattern_of c current ≡ false → AreApart (Some (new_bytes c)) current
full_set Empty current ready fresh = cc ready
full_set (Partial bytes) current ready fresh = cc ready
full_set (Full bytes) None ready fresh = tt
full_set (Full bytes) (Some current) ready fresh =
    λ same. true≢false (sym ((bytes_eq-Decides (pattern_of_master current) (pattern_of_master bytes)).1 (sym same)) ∙ fresh)

step_apart : (action : Action) (part : List ℕ) (m : Masters) → has_wrong_state action m ≡ false → repeats_pattern action m ≡ false → HasApart m
    → HasApart (after_action action part m)
unfolding HasApart
step_apart First part m ready fresh now = now
step_apart Middle part m ready fresh now = now
step_apart Last part m ready fresh now = now
step_apart Clear part m ready fresh now = now
step_apart Set part m ready fresh now = full_set m.coming m.current ready fresh

IsApart : State → Type 0
unfolding HasApart
IsApart s = HasApart s.registers

line_apart : (s : State) (random line : List ℕ) → IsApart s → IsApart (line_outcome s random line).state
unfolding IsApart HasApart
line_apart s random line now =
    by_line IsApart s now random line
    (λ drawn r is permits.
    registers_after HasApart step_apart s (effect s drawn r.name r) (needed_points r.name r) now (becomes s drawn r.name r (permitted s drawn r permits).verb))

-- of each state that the lines lead through
along_apart : (s : State) (random : List ℕ) (lines : List (List ℕ)) → IsApart s → (k : ℕ) (d : State) → k < length (states_along s random lines)
    → IsApart (get_or (states_along s random lines) k d)
along_apart s random [] now zero d within = now
along_apart s random [] now (suc k) d within = absurd (omega (arith, within))
along_apart s random (line ∷ lines) now zero d within = now
along_apart s random (line ∷ lines) now (suc k) d within =
    along_apart (line_outcome s random line).state (line_outcome s random line).random lines (line_apart s random line now) k d (omega (arith, within))

pub first_along : (s : State) (random : List ℕ) (lines : List (List ℕ)) → Contains (states_along s random lines) s
first_along s random [] = (0, omega arith, refl)
first_along s random (line ∷ lines) = (0, omega arith, refl)

patterns_of : (a b : Option (List ℕ)) → AreApart a b → (current former : MasterKey) → master_key a ≡ Some current → master_key b ≡ Some former
    → current.pattern ≡ former.pattern → ⊥
patterns_of None b apart current former is_a is_b same = cc is_a
patterns_of (Some a) None apart current former is_a is_b same = cc is_b
patterns_of (Some a) (Some b) apart current former is_a is_b same = apart (ap pattern_or is_a ∙ (same ∙ sym (ap pattern_or is_b)))
  where
    pattern_or : Option MasterKey → List ℕ
    pattern_or None = []
    pattern_or (Some key) = key.pattern

distinct : (s : State) → IsApart s → HaveDistinctPatterns (keys_of s.registers)
unfolding IsApart HasApart
distinct s apart = patterns_of s.registers.current s.registers.former apart

module_apart : (s : State) (c : List ℕ) → IsModuleOf s c → IsApart s
unfolding IsApart HasApart
module_apart s c stands = ⊎_elim
    (λ (blank : (body c 0 ≡ blank_registers) × (s.registers ≡ blank_masters)). subst (λ (m : Masters). AreApart m.current m.former) (sym blank.1) tt)
    (λ (full : (body c 0 ≡ registers_body s.registers) × IsMasters s.registers). full.1.apart)
    stands.registers

-- ---- bodies

zero_list : (n : ℕ) (xs : List ℕ) → length xs ≡ n → ((k : ℕ) → k < n → get_or xs k 0 ≡ 0) → xs ≡ replicate n 0
zero_list zero [] size zeros = refl
zero_list zero (x ∷ xs) size zeros = absurd (omega (arith, size))
zero_list (suc n) [] size zeros = absurd (omega (arith, size))
zero_list (suc n) (x ∷ xs) size zeros =
    ap₂ (λ (y : ℕ) (ys : List ℕ). y ∷ ys) (zeros 0 (omega arith)) (zero_list n xs (omega (arith, size)) (λ k within. zeros (suc k) (omega (arith, within))))

-- each byte of a cell is zero
abbrev IsZeroCell : ℕ → List ℕ → Type 0
IsZeroCell n image = (j : ℕ) → j < 1536 → get_or image (1536 * n + j) 0 ≡ 0

zero_body : (image : List ℕ) (n side : ℕ) → n < 1024 → side < 2 → length image ≡ 1572864 → IsZeroCell n image → body_at image n side ≡ blank_body
unfolding blank_body
zero_body image n side within low size zeros =
    zero_list 192 (body_at image n side)
    (length-range image (body_place n side) 192 ∙ omega (arith, size))
    (λ k inside. get_or-range image (body_place n side) 192 k inside ∙ (ap (λ i. get_or image i 0) (place k) ∙ zeros (512 * (1 + side) + k) (omega arith)))
  where
    place : (k : ℕ) → body_place n side + k ≡ 1536 * n + (512 * (1 + side) + k)
    place k = omega arith

blank_selects : (image : List ℕ) → IsBlankStore image → (n : ℕ) → n < 1024 → body image n ≡ blank_body
unfolding body
blank_selects image blank n within =
    zero_body image n (selected image n) within (selected_below image n) blank.size (λ j inside. blank.zeros (1536 * n + j))

-- ---- a store that is blank

blank_entry : (s : State) (image : List ℕ) → IsStoreOf s image → IsBlankStore image → (n : ℕ) → n < 1024 → entry_at s.labels n ≡ None
blank_entry s image stands blank n within =
    sym (reads_one (keys_of s.registers) (body image n) (entry_at s.labels n) (stands.reads n within))
    ∙ entry_blank (keys_of s.registers) (body image n) (blank_selects image blank n within)

pub blank_sealed : (s : State) (image : List ℕ) → IsStoreOf s image → IsBlankStore image → IsSealed (s ∷ []) image
blank_sealed s image stands blank = record {
  selectors = λ n within. let zero_there : get_or image (1536 * n) 0 ≡ 0 = blank.zeros (1536 * n) in omega (arith, zero_there);
  bodies = bodies;
  others = λ k spare. blank.zeros k;
}
  where
    bodies : (n side : ℕ) → n < 1024 → side < 2 → IsSealedBody (s ∷ []) n (body_at image n side)
    bodies n side within low =
        let none : entry_at s.labels n ≡ None = blank_entry s image stands blank n within in
        record {
          state = s;
          among = (0, omega arith, refl);
          is = zero_body image n side within low blank.size (λ j inside. blank.zeros (1536 * n + j)) ∙ ap (written_body (keys_of s.registers)) (sym none);
          proper = λ e is. absurd (no_entry e (sym none ∙ is));
          unused = λ token is. absurd (none_some token (sym (ap unused_in none) ∙ is));
        }
      where
        no_entry : (e : Entry) → None ≡ Some e → ⊥
        no_entry e is = cc

-- ---- what is sealed over some states is sealed over more

module _ (states more : List State) (wider : (u : State) → Contains states u → Contains more u) where
  token_wider : (bytes : List ℕ) → IsSealedToken states bytes → IsSealedToken more bytes
  token_wider bytes t = record { state = t.state; among = wider t.state t.among; age = t.age; clear = t.clear; is = t.is; sound = t.sound }

  body_wider : (n : ℕ) (bytes : List ℕ) → IsSealedBody states n bytes → IsSealedBody more n bytes
  body_wider n bytes b = record {
    state = b.state;
    among = wider b.state b.among;
    is = b.is;
    proper = b.proper;
    unused = λ token is. token_wider token (b.unused token is);
  }

  made_wider : (es : List (Option Entry)) → AreMadeTokens states es → AreMadeTokens more es
  made_wider es made n token is =
      let t = made n token is in record { state = t.state; among = wider t.state t.among; age = t.age; clear = t.clear; is = t.is }

-- ---- a body that a store selects

proper_of : (masters : MasterKeys) → HaveDistinctPatterns masters → (bytes : List ℕ) (slot : Option Entry) → ReadsEntry masters bytes slot → (e : Entry) → slot ≡ Some e
    → IsProper e
proper_of masters apart bytes slot reads e at =
    let here : ReadsEntry masters bytes (Some e) = subst (ReadsEntry masters bytes) at reads in
    record {
      label = here.0;
      key = λ key is. (entry_whole masters apart bytes (Some e) key here is).key;
      vector = λ key is. (entry_whole masters apart bytes (Some e) key here is).vector;
    }

-- a cell that is as it was has the bodies that it had
same_body : (n side : ℕ) (old new : List ℕ) → side < 2 → length new ≡ length old → SameCell n old new → body_at new n side ≡ body_at old n side
same_body n side old new low size same =
    same_number_lists (body_at new n side) (body_at old n side)
    (length-range new (body_place n side) 192 ∙ (ap (λ (l : ℕ). min 192 (l - body_place n side)) size ∙ sym (length-range old (body_place n side) 192)))
    (λ k within.
    let below : k < 192 = omega (arith, within, length-range new (body_place n side) 192) in
    get_or-range new (body_place n side) 192 k below
    ∙ (ap (λ i. get_or new i 0) (place k)
    ∙ (same (512 * (1 + side) + k) (omega (arith, below, low))
    ∙ (ap (λ i. get_or old i 0) (sym (place k)) ∙ sym (get_or-range old (body_place n side) 192 k below)))))
  where
    place : (k : ℕ) → body_place n side + k ≡ 1536 * n + (512 * (1 + side) + k)
    place k = omega arith

module _ (before : List State) (s : State) (random : List ℕ) (lines : List (List ℕ)) (apart : IsApart s) (made : AreMadeTokens before s.labels) where
  abbrev along : List State
  along = states_along s random lines

  abbrev all : List State
  all = before ++ along

  earlier : (u : State) → Contains before u → Contains all u
  earlier u among = Contains-append_left before along u among

  later : (u : State) → Contains along u → Contains all u
  later u among = Contains-append_right before along u among

  tokens_among : (u : State) → Contains along u → AreMadeTokens all u.labels
  tokens_among u among =
      subst (λ (t : State). AreMadeTokens all t.labels) among.2
      (along_made all s random lines later (made_wider before all earlier s.labels made) among.0 u among.1)

  apart_among : (u : State) → Contains along u → IsApart u
  apart_among u among = subst IsApart among.2 (along_apart s random lines apart among.0 u among.1)

  selected_body : (u : State) (content : List ℕ) (n : ℕ) (bytes : List ℕ) → Contains along u → IsStoreOf u content → n < 1024 → body content n ≡ bytes → IsSealedBody all n bytes
  selected_body u content n bytes among stands within is =
      let patterns : HaveDistinctPatterns (keys_of u.registers) = distinct u (apart_among u among) in
      record {
        state = u;
        among = later u among;
        is = sym is ∙ one_body (keys_of u.registers) patterns (body content n) (entry_at u.labels n) (stands.reads n within);
        proper = proper_of (keys_of u.registers) patterns (body content n) (entry_at u.labels n) (stands.reads n within);
        unused = λ token has.
            let t = tokens_among u among n token has in
            record {
              state = t.state;
              among = t.among;
              age = t.age;
              clear = t.clear;
              is = t.is;
              sound = unused_sound (keys_of u.registers) (body content n) token (entry_at u.labels n) (stands.reads n within) has;
            };
      }

  module _ (old new : List ℕ) (sealed_before : IsSealed before old) (rest : IsAtRest along old new) where
    kept_body : (n side : ℕ) → n < 1024 → side < 2 → SameCell n old new → IsSealedBody all n (body_at new n side)
    kept_body n side within low same =
        subst (IsSealedBody all n) (sym (same_body n side old new low rest.same.size same))
        (body_wider before all earlier n (body_at old n side) (sealed_before.bodies n side within low))

    turned_body : (n side : ℕ) → n < 1024 → side < 2 → WasSelected along n (other_body new n) → IsSealedBody all n (body_at new n side)
    unfolding body other_body
    turned_body n side within low was = by_side (selected new n) refl (selected_below new n) side low
      where
        by_side : (t : ℕ) → selected new n ≡ t → t < 2 → (x : ℕ) → x < 2 → IsSealedBody all n (body_at new n x)
        by_side t is below x small = ⊎_elim
            (λ (here : x ≡ t).
            selected_body rest.last new n (body_at new n x) rest.among rest.stands within (ap (body_at new n) (is ∙ sym here)))
            (λ (other : x ≢ t).
            let there : 1 - selected new n ≡ x = omega (arith, is) in
            selected_body was.state was.content n (body_at new n x) was.among was.stands within (was.is ∙ ap (body_at new n) there))
            (cases_eq x t)

    bodies : (n side : ℕ) → n < 1024 → side < 2 → IsSealedBody all n (body_at new n side)
    bodies n side within low = ⊎_elim
        (λ (same : SameCell n old new). kept_body n side within low same)
        (λ (turned : (slice_index new (1536 * n) < 2) × WasSelected along n (other_body new n)). turned_body n side within low turned.1)
        (rest.each n within)

    selectors : (n : ℕ) → n < 1024 → slice_index new (1536 * n) < 2
    selectors n within = ⊎_elim
        (λ (same : SameCell n old new).
        let here : get_or new (1536 * n) 0 ≡ get_or old (1536 * n) 0 =
        ap (λ i. get_or new i 0) (none n) ∙ (same 0 (omega arith) ∙ ap (λ i. get_or old i 0) (sym (none n))) in
        omega (arith, here, sealed_before.selectors n within))
        (λ (turned : (slice_index new (1536 * n) < 2) × WasSelected along n (other_body new n)). turned.0)
        (rest.each n within)
      where
        none : (n : ℕ) → 1536 * n ≡ 1536 * n + 0
        none n = omega arith

    sealed_along : IsSealed all new
    sealed_along = record {
      selectors = selectors;
      bodies = bodies;
      others = λ k spare. rest.same.spare k spare ∙ sealed_before.others k spare;
    }

pub sealed : (s : State) (before : List State) (c random old new : List ℕ) (lines : List (List ℕ)) → IsModuleOf s c → IsStoreOf s old → IsSealed before old
    → IsAtRest (states_along s random lines) old new → IsSealed (before ++ states_along s random lines) new
sealed s before c random old new lines stands store sealed_before rest =
    sealed_along before s random lines (module_apart s c stands) (made_before before s old store sealed_before) old new sealed_before rest
