-- Labels that were ahead are under their second tokens.
use Rattle.std.proofs.Common.{◌≡◌, ℕ, Bool, true, false, List, [], ◌∷◌, map, Option, None, Some, refl, sym, ap, subst, ◌∙◌}
use Rattle.std.specs.Prelude.{◌||◌}
use Rattle.std.proofs.lemmas.List.{length-map}
use Rattle.key_records.specs.Changes.{any_ahead, is_ahead_row}
use Rattle.record_bodies.specs.Ages.{any_ahead_entry, is_ahead_entry}
use Rattle.record_bodies.specs.Directory.{AreApart}
use Rattle.record_bodies.specs.Entries.{Entry, remembered, pattern_ahead, row_directory, row_label, turned}
use Rattle.key_tokens.specs.Denotes.{MasterKeys}
use Rattle.record_bodies.specs.Ascending.{Lists}
use Rattle.record_bodies.specs.Rows.{AreRows, AreListed}
use Rattle.record_bodies.specs.StoreStands.{Agrees}
use Rattle.record_bodies.specs.declared.rows.Row.{Row}

-- ---- rows

label_turned : (r : Option Row) → row_label (turned r) ≡ row_label r
label_turned None = refl
label_turned (Some r) = refl

pub directory_turned : (rows : List (Option Row)) → row_directory (map turned rows) ≡ row_directory rows
directory_turned [] = refl
directory_turned (r ∷ rows) = ap (λ l. l ∷ row_directory (map turned rows)) (label_turned r) ∙ ap (λ d. row_label r ∷ d) (directory_turned rows)

rows_turned : (rows : List (Option Row)) → AreRows rows → AreRows (map turned rows)
rows_turned rows are = record {
  size = length-map rows turned ∙ are.size;
  apart = subst AreApart (sym (directory_turned rows)) are.apart;
}

pub listed_turned : (rows : List (Option Row)) (cells : List ℕ) → AreListed rows cells → AreListed (map turned rows) cells
listed_turned rows cells listed = record {
  are = rows_turned rows listed.are;
  listed = subst (λ d. Lists d cells) (sym (directory_turned rows)) listed.listed;
}

-- ---- which labels are ahead

ahead_row : (masters : MasterKeys) (e : Option Entry) → is_ahead_row (remembered masters e) ≡ is_ahead_entry e
ahead_row masters None = refl
ahead_row masters (Some e) = by_ahead e.ahead
  where
    by_ahead : (b : Bool) → is_ahead_row (Some (record { label = e.label; pattern = None; ahead = pattern_ahead masters b })) ≡ b
    by_ahead true = refl
    by_ahead false = refl

ahead_rows : (masters : MasterKeys) (s : List (Option Entry)) → any_ahead (map (remembered masters) s) ≡ any_ahead_entry s
ahead_rows masters [] = refl
ahead_rows masters (e ∷ s) = ap (λ b. b || any_ahead (map (remembered masters) s)) (ahead_row masters e) ∙ ap (λ b. is_ahead_entry e || b) (ahead_rows masters s)

pub ahead_known : (masters : MasterKeys) (rows : List (Option Row)) (s : List (Option Entry)) → Agrees masters rows s → any_ahead rows ≡ any_ahead_entry s
ahead_known masters rows s agrees = ap any_ahead agrees ∙ ahead_rows masters s
