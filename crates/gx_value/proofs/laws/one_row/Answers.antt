use Rattle.std.proofs.Common.{sym, ◌∙◌}
use Rattle.gx_value.proofs.OneRow.{Laws, one_path, row_of_bytes, row_bytes}
use Rattle.gx_value.proofs.laws.one_row.Goals as goal

laws : (c : goal.After-one_spelling) → Laws
laws c = record {
  one_scalar = c.one_encoding.ensures;
  one_range = c.one_encoding-2.ensures;
  one_inet = c.one_encoding-3.ensures;
  one_path = one_path c.one_answer.ensures;
  one_map = c.one_encoding-4.ensures.maps;
  one_document = c.one_encoding-5.ensures;
  one_array = c.one_encoding-6.ensures;
  map_bytes = c.one_encoding-4.ensures.bytes;
  number_bytes = λ a b n p q. c.one_spelling.ensures.number_only a n p ∙ sym (c.one_spelling.ensures.number_only b n q);
  part_bytes = λ a b part p q. c.one_spelling.ensures.part_only a part p ∙ sym (c.one_spelling.ensures.part_only b part q);
}

pub returns : goal.returns
returns c = record { row = row_of_bytes (laws c); bytes = row_bytes (laws c) }
