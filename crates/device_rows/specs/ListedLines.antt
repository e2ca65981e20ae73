-- Records, and the lines that list them.
use Rattle.std.specs.Prelude.{◌≡◌, [], ◌∷◌, ◌++◌, ℕ, List, codes, length}
use Rattle.audit_trail.specs.Entries.{filled}
use Rattle.audit_trail.specs.declared.entries.Entry.{Entry}
use Rattle.line_service.specs.Lines.{newline}
use Rattle.audited_service.specs.Lines.{record_line}

-- a record by its rule, role, verb and label
abbrev pub entry : ℕ → List ℕ → List ℕ → List ℕ → Entry
entry rule role verb label = record {
  rule = rule;
  role = filled 8 role;
  verb = filled 10 verb;
  label = filled 64 label;
  label_length = length label;
}

pub record LinesListed : Type 0 where
  pub carried_out : record_line 0 (entry 0 (codes "DEFAULT") (codes "CSNBKRC") (codes "PAY"))
      ≡ codes "0 00 DEFAULT CSNBKRC PAY" ++ newline ∷ []
  pub refused : record_line 4096 (entry 30 (codes "R2345678") (codes "REENCIPHER") [])
      ≡ codes "4096 30 R2345678 REENCIPHER -" ++ newline ∷ []
  pub no_request : record_line 12 (entry 1 [] [] []) ≡ codes "12 01 - - -" ++ newline ∷ []
