-- What a machine does, it does with the entries of its lines noted.
use Rattle.std.proofs.Common.{◌≡◌, ℕ, suc, List, [], ◌∷◌, ◌++◌, Result, Ok, Err, refl, sym, ap, ◌∙◌, subst, inl, inr, append_assoc}
use Rattle.std.proofs.lemmas.List.{append-nil}
use Rattle.std.specs.Prelude.{◌⊎◌, OnOk}
use Rattle.device_cells.specs.Medium.{Medium}
use Rattle.device_cells.proofs.Media.{each_weaker}
use Rattle.audit_trail.specs.declared.entries.Entry.{Entry}
use Rattle.line_service.specs.Machine.{Machine, World}
use Rattle.line_service.specs.Answering.{OnDisks, Stands, Steps, Around, Both, Stays, Moves, Turns, Serves}
use Rattle.line_service.specs.declared.stops.Stop.{Stop}
use Rattle.audited_service.specs.Noting.{Noted, after, with_entry, noting, entries_of, NotesLines}

module _ (A : Machine) (entry : List ℕ → List ℕ → Entry) where
  -- ---- many lines

  pub notes_lines : (ls : List (List ℕ)) (s : A.State) (es : List Entry) (random : List ℕ) → NotesLines A entry s es random ls
  notes_lines [] s es random = record { state = refl; reply = refl; random_left = refl; entries = sym (append-nil es); each = refl }
  notes_lines (line ∷ ls) s es random =
      let o = A.step s random line in
      let later = notes_lines ls o.state (es ++ entry line o.reply ∷ []) o.random in
      record {
        state = later.state;
        reply = ap (λ (bytes : List ℕ). o.reply ++ bytes) later.reply;
        random_left = later.random_left;
        entries = later.entries ∙ append_assoc es (entry line o.reply ∷ []) (entries_of A entry o.state o.random ls);
        each = ap suc later.each;
      }

  -- ---- one line

  -- disks that stand for a state stand for it with any entries
  pub on_disks : (t : Noted A.State) (m d : Medium) → OnDisks A t.state m d → OnDisks (noting A entry) t m d
  on_disks t m d disks = record {
    in_module = record { image = disks.in_module.image; told = disks.in_module.told; has = disks.in_module.has };
    in_store = record { image = disks.in_store.image; told = disks.in_store.told; has = disks.in_store.has };
  }

  pub off_disks : (t : Noted A.State) (m d : Medium) → OnDisks (noting A entry) t m d → OnDisks A t.state m d
  off_disks t m d disks = record {
    in_module = record { image = disks.in_module.image; told = disks.in_module.told; has = disks.in_module.has };
    in_store = record { image = disks.in_store.image; told = disks.in_store.told; has = disks.in_store.has };
  }

  turns_noted : (old new : World) (r : Result (Unit {0}) Stop) → OnOk r (Turns A old new) → OnOk r (Turns (noting A entry) old new)
  turns_noted old new (Ok done) turns = record { on_module = turns.on_module; on_store = turns.on_store }
  turns_noted old new (Err stop) turns = tt

  module _ (s : Noted A.State) where
    steps_noted : (line drawn reply : List ℕ) (next : A.State) → Steps A s.state line drawn next reply
        → Steps (noting A entry) s line drawn (after s.entries (entry line reply) next) reply
    steps_noted line drawn reply next steps = λ rest. ap (with_entry entry s.entries line) (steps rest)

    around_noted : (line reply : List ℕ) (next : A.State) (P : A.State → Type 0) → Around A s.state line next P
        → Around (noting A entry) s line (after s.entries (entry line reply) next) (λ t. P t.state)
    around_noted line reply next P (inl has) = inl has
    around_noted line reply next P (inr (inl has)) = inr (inl has)
    around_noted line reply next P (inr (inr between)) = inr (inr (record { state = between.0; entries = s.entries }, (between.1, refl), between.2))

    stays_noted : (old new : World) → Stays A s.state old new → Stays (noting A entry) s old new
    stays_noted old new stays = record { on_module = stays.on_module; on_store = stays.on_store }

    -- what memory agrees with after the line has its entry
    module _ (K : A.State → Type 0) (K1 : Noted A.State → Type 0) (line : List ℕ) (result : Result (Unit {0}) Stop) (reply : List ℕ) (old new : World)
        (knows : OnOk result ((next : A.State) → K next → K1 (after s.entries (entry line reply) next))) where
      stands_noted : (r : Result (Unit {0}) Stop) (next : A.State) (answer : List ℕ) → OnOk r ((n : A.State) → K n → K1 (after s.entries (entry line reply) n)) → OnOk r (reply ≡ answer)
          → OnOk r (Stands A next K new.module_ new.store) → OnOk r (Stands (noting A entry) (after s.entries (entry line answer) next) K1 new.module_ new.store)
      stands_noted (Ok done) next answer k is stands = record {
        disks = on_disks (after s.entries (entry line answer) next) new.module_ new.store stands.disks;
        agrees = subst (λ (a : List ℕ). K1 (after s.entries (entry line a) next)) is (k next stands.agrees);
      }
      stands_noted (Err stop) next answer k is stands = tt

      moves_noted : Moves A s.state K line result reply old new → Moves (noting A entry) s K1 line result reply old new
      moves_noted moves = record {
        drawn = moves.drawn;
        next = after s.entries (entry line moves.answer) moves.next;
        answer = moves.answer;
        steps = steps_noted line moves.drawn moves.answer moves.next moves.steps;
        consumed = moves.consumed;
        reply_is = moves.reply_is;
        stands = stands_noted result moves.next moves.answer knows moves.reply_is moves.stands;
        on_module = each_weaker old.module_ new.module_ _ _ moves.on_module (λ c on. around_noted line moves.answer moves.next (λ t. A.InModule t c) on);
        on_store = each_weaker old.store new.store _ _ moves.on_store (λ d on. around_noted line moves.answer moves.next (λ t. A.InStore t d) on);
        pairs = record {
          later1 = moves.pairs.later1;
          later2 = moves.pairs.later2;
          each = λ c d left right. around_noted line moves.answer moves.next (Both A c d) (moves.pairs.each c d left right);
        };
        unwritten = moves.unwritten;
      }

      pub serves_noted : Serves A s.state K line result reply old new → Serves (noting A entry) s K1 line result reply old new
      serves_noted serves = record {
        served = by_case serves.served;
        stops = serves.stops;
        undrawn = λ h. stays_noted old new (serves.undrawn h);
        unwritten = serves.unwritten;
        within = record { on_module = serves.within.on_module; on_store = serves.within.on_store };
        turns = turns_noted old new result serves.turns;
      }
        where
          by_case : Moves A s.state K line result reply old new ⊎ (OnOk result ⊥ × Stays A s.state old new)
              → Moves (noting A entry) s K1 line result reply old new ⊎ (OnOk result ⊥ × Stays (noting A entry) s old new)
          by_case (inl moves) = inl (moves_noted moves)
          by_case (inr stays) = inr (stays.0, stays_noted old new stays.1)
