-- Lines of the grammar, and the requests that they spell.
use Rattle.std.specs.Prelude.{◌≡◌, [], ◌∷◌, codes, None, Some}
use Rattle.verb_script.specs.declared.rows.RequestName.TheVariants.{Csnbkyt, Csnbpex}
use Rattle.verb_script.specs.Requests.{request_of}

pub record LinesSpell : Type 0 where
  pub by_label : request_of (codes "CSNBKYT role=TELLER key=L:PAY.1")
      ≡ Some (record { name = Csnbkyt; values = codes "TELLER" ∷ codes "L:PAY.1" ∷ [] })
  pub into_reply : request_of (codes "CSNBPEX role=CLERK key=L:ONE to=-")
      ≡ Some (record { name = Csnbpex; values = codes "CLERK" ∷ codes "L:ONE" ∷ codes "-" ∷ [] })
  pub out_of_order : request_of (codes "CSNBKYT key=L:PAY.1 role=TELLER") ≡ None
  pub no_label : request_of (codes "CSNBKYT role=TELLER key=L:") ≡ None
