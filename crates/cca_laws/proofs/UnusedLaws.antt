-- The tokens that labels no longer use: SET leaves them of labels that were ahead, and no other request makes one.
use Rattle.std.proofs.Common.{◌≡◌, ◌⊎◌, inl, inr, ⊎_elim, ℕ, zero, suc, ◌<◌, Bool, true, false, List, [], ◌∷◌, length, get_or, set, Option, None, Some, refl, sym, subst, ◌∙◌, arith}
use Rattle.std.specs.Prelude.{Contains}
use Rattle.std.proofs.lemmas.Option.{same_Some}
use Rattle.cca_roles.proofs.DirectoryLaws.{none_some}
use Rattle.record_bodies.specs.LabelChanges.{null_entry, with_what}
use Rattle.record_bodies.specs.Directory.{free_cell}
use Rattle.record_bodies.specs.Entries.{Entry, directory}
use Rattle.record_bodies.specs.StoreStands.{entry_at}
use Rattle.record_bodies.specs.Turning.{aged, aged_entry, unused_by}
use Rattle.record_bodies.specs.Written.{register_of, token_bytes}
use Rattle.key_tokens.specs.Denotes.{ClearKey, Denoted, MasterKeys}
use Rattle.key_tokens.specs.declared.key_token.Age.{Age}
use Rattle.key_tokens.specs.declared.key_token.Age.TheVariants.{Current}
use Rattle.record_bodies.specs.Further.{changed_entry, further, made_by}
use Rattle.record_bodies.specs.declared.actions.StoreAction.{StoreAction}
use Rattle.record_bodies.specs.declared.actions.StoreAction.TheVariants.{Renew, Ahead, Drop}
use Rattle.verb_rules.specs.Keys.{keys_of}
use Rattle.verb_script.specs.Grammar.{Request}
use Rattle.verb_script.specs.declared.rows.RequestName.{RequestName}
use Rattle.cca_machine.specs.Act.{Effect, Show, Become, DefineRole, RemoveRole, Create, Write, Delete, ChangeLabels, deleted_in, effect, state_after as after_effect, written_in}
use Rattle.cca_machine.specs.Keys.{cell_with}
use Rattle.cca_machine.specs.Lines.{line_outcome}
use Rattle.cca_machine.specs.State.{State}
use Rattle.cca_machine.proofs.RerunLaws.{by_change}
use Rattle.cca_laws.specs.Sealed.{states_along, unused_in}
use Rattle.cca_laws.proofs.EffectLaws.{Fits, effect_fits}
use Rattle.cca_laws.proofs.LineCases.{by_line}

-- ---- one entry

module _ (masters : MasterKeys) where
  -- a token that is unused afterwards was unused before, or is that of some key under the current master key
  abbrev pub Leaves : Option Entry → Option Entry → Type 0
  Leaves a b =
      (token : List ℕ) → unused_in b ≡ Some token
      → (unused_in a ≡ Some token) ⊎ ((clear : ClearKey) × (token ≡ token_bytes masters.current clear))

  itself : (e : Option Entry) → Leaves e e
  itself e token is = inl is

  none_left : (a b : Option Entry) → unused_in b ≡ None → Leaves a b
  none_left a b none token is = absurd (none_some token (sym none ∙ is))

  aged_leaves : (e : Option Entry) → Leaves e (aged_entry masters e)
  aged_leaves None token is = absurd (none_some token is)
  aged_leaves (Some e) token is = by_mark e.ahead e.what is
    where
      by_mark : (ahead : Bool) (what : Option Denoted) → unused_by masters (record e { what = what }) ahead ≡ Some token
          → (e.unused ≡ Some token) ⊎ ((clear : ClearKey) × (token ≡ token_bytes masters.current clear))
      by_mark false what is = inl is
      by_mark true None is = absurd (none_some token is)
      by_mark true (Some key) is = inr (key.clear, sym (same_Some (token_bytes masters.current key.clear) token is))

  made_leaves : (a : StoreAction) (e : Entry) → (made_by a e).unused ≡ None
  made_leaves Renew e = refl
  made_leaves Ahead e = refl
  made_leaves Drop e = refl

  changed_leaves : (a : StoreAction) (e : Option Entry) → Leaves e (changed_entry a e)
  changed_leaves a None = itself None
  changed_leaves a (Some e) =
      by_change (λ f. Leaves (Some e) (Some f)) a e (none_left (Some e) (Some (made_by a e)) (made_leaves a e)) (itself (Some e))

  -- ---- the places of a store

  abbrev pub AllLeave : List (Option Entry) → List (Option Entry) → Type 0
  AllLeave es fs = (n : ℕ) → Leaves (entry_at es n) (entry_at fs n)

  set_leaves : (es : List (Option Entry)) (cell : ℕ) (e : Option Entry) → unused_in e ≡ None → AllLeave es (set es cell e)
  set_leaves [] cell e none n = itself (entry_at [] n)
  set_leaves (x ∷ xs) zero e none zero = none_left x e none
  set_leaves (x ∷ xs) zero e none (suc n) = itself (entry_at xs n)
  set_leaves (x ∷ xs) (suc cell) e none zero = itself x
  set_leaves (x ∷ xs) (suc cell) e none (suc n) = set_leaves xs cell e none n

  all_aged : (es : List (Option Entry)) → AllLeave es (aged masters es)
  all_aged [] n = itself (entry_at [] n)
  all_aged (x ∷ xs) zero = aged_leaves x
  all_aged (x ∷ xs) (suc n) = all_aged xs n

  all_further : (a : StoreAction) (es : List (Option Entry)) (cells : ℕ) → AllLeave es (further a es cells)
  all_further a [] cells n = itself (entry_at [] n)
  all_further a (x ∷ xs) zero n = itself (entry_at (x ∷ xs) n)
  all_further a (x ∷ xs) (suc cells) zero = changed_leaves a x
  all_further a (x ∷ xs) (suc cells) (suc n) = all_further a xs cells n

  with_none : (key : Denoted) (e : Option Entry) → unused_in (with_what key e) ≡ None
  with_none key None = refl
  with_none key (Some e) = refl

  all_written : (es : List (Option Entry)) (key : Denoted) (cell : Option ℕ) → AllLeave es (written_in cell key es)
  all_written es key None n = itself (entry_at es n)
  all_written es key (Some cell) n = set_leaves es cell (with_what key (entry_at es cell)) (with_none key (entry_at es cell)) n

  all_deleted : (es : List (Option Entry)) (cell : Option ℕ) → AllLeave es (deleted_in cell es)
  all_deleted es None n = itself (entry_at es n)
  all_deleted es (Some cell) n = set_leaves es cell None refl n

-- ---- one effect

module _ (s : State) where
  all_after : (name : RequestName) (r : Request) (e : Effect) → Fits s name r e → AllLeave (keys_of s.registers) s.labels (after_effect s e).labels
  all_after name r (Become m labels) fits = ⊎_elim
      (λ (same : labels ≡ s.labels). subst (AllLeave (keys_of s.registers) s.labels) (sym same) (λ n. itself (keys_of s.registers) (entry_at s.labels n)))
      (λ (age : labels ≡ aged (keys_of s.registers) s.labels).
      subst (AllLeave (keys_of s.registers) s.labels) (sym age) (all_aged (keys_of s.registers) s.labels))
      fits
  all_after name r (Create label) fits = set_leaves (keys_of s.registers) s.labels (free_cell (directory s.labels)) (Some (null_entry label)) refl
  all_after name r (Write label key fields) fits = all_written (keys_of s.registers) s.labels key (cell_with s label)
  all_after name r (Delete label) fits = all_deleted (keys_of s.registers) s.labels (cell_with s label)
  all_after name r (ChangeLabels a) fits = all_further (keys_of s.registers) a s.labels 1024
  all_after name r (Show fields) fits = λ n. itself (keys_of s.registers) (entry_at s.labels n)
  all_after name r (DefineRole role points) fits = λ n. itself (keys_of s.registers) (entry_at s.labels n)
  all_after name r (RemoveRole role) fits = λ n. itself (keys_of s.registers) (entry_at s.labels n)

-- ---- lines

-- the token is that of some key under a master key of one of the states
pub record IsMadeToken (states : List State) (bytes : List ℕ) : Type 0 where
  pub state : State
  pub among : Contains states state
  pub age : Age
  pub clear : ClearKey
  pub is : bytes ≡ token_bytes (register_of (keys_of state.registers) age) clear

module _ (all : List State) where
  -- each unused token is one of these
  abbrev pub AreMadeTokens : List (Option Entry) → Type 0
  AreMadeTokens es = (n : ℕ) (token : List ℕ) → unused_in (entry_at es n) ≡ Some token → IsMadeToken all token

  still_made : (s : State) → Contains all s → (es : List (Option Entry)) → AllLeave (keys_of s.registers) s.labels es → AreMadeTokens s.labels → AreMadeTokens es
  still_made s among es leaves now n token is = ⊎_elim
      (λ (before : unused_in (entry_at s.labels n) ≡ Some token). now n token before)
      (λ (fresh : (clear : ClearKey) × (token ≡ token_bytes (keys_of s.registers).current clear)).
      record { state = s; among = among; age = Current; clear = fresh.0; is = fresh.1 })
      (leaves n token is)

  line_made : (s : State) (random line : List ℕ) → Contains all s → AreMadeTokens s.labels → AreMadeTokens (line_outcome s random line).state.labels
  line_made s random line among now =
      by_line (λ (t : State). AreMadeTokens t.labels) s now random line
      (λ drawn r is permits.
      still_made s among (after_effect s (effect s drawn r.name r)).labels (all_after s r.name r (effect s drawn r.name r) (effect_fits s drawn r permits)) now)

  -- of each state that the lines lead through
  pub along_made : (s : State) (random : List ℕ) (lines : List (List ℕ)) → ((u : State) → Contains (states_along s random lines) u → Contains all u) → AreMadeTokens s.labels
      → (k : ℕ) (d : State) → k < length (states_along s random lines) → AreMadeTokens (get_or (states_along s random lines) k d).labels
  along_made s random [] among now zero d within = now
  along_made s random [] among now (suc k) d within = absurd (omega (arith, within))
  along_made s random (line ∷ lines) among now zero d within = now
  along_made s random (line ∷ lines) among now (suc k) d within =
      along_made (line_outcome s random line).state (line_outcome s random line).random lines
      (λ u there. among u (suc there.0, omega (arith, there.1), there.2))
      (line_made s random line (among s (0, omega arith, refl)) now) k d (omega (arith, within))
