-- A response, as far as its lines have come (this project's own).
use Rattle.std.specs.Prelude.{ℕ, ◌≤◌, ◌*◌, List, length}
use Rattle.nk_base.specs.Heads.{IsGoodHead}
use Rattle.nk_base.specs.declared.field.Field.{Field}
use Rattle.nk_plan.specs.declared.plan.Finish.{Finish}

-- size are the bytes of the pieces
pub record ResponseParts : Type 0 where
  pub code : ℕ
  pub fields : List Field
  pub pieces : List (List ℕ)
  pub size : ℕ
  pub finish : Finish
  pub trailers : List Field

-- the code and the fields are a head, and the pieces are no more than a body may have
pub record IsGoodResponse (r : ResponseParts) : Type 0 where
  pub head : IsGoodHead (record { code = r.code; fields = r.fields })
  pub few_pieces : length r.pieces ≤ 65536
  pub few_bytes : r.size ≤ 131072 * length r.pieces
