use Rattle.gx_value.specs.Types.{family_of}
use Rattle.gx_value.proofs.Printed.{Laws, read_again}
use Rattle.gx_value.proofs.laws.printed_again.Goals as goal

laws : (c : goal.After-printed_again-7) → Laws
laws c = record {
  scalar_again = c.printed_again.ensures;
  range_again = c.printed_again-2.ensures;
  inet_again = c.printed_again-3.ensures;
  path_again = c.printed_again-4.ensures;
  map_again = c.printed_again-5.ensures;
  document_again = c.printed_again-6.ensures;
  array_again = c.printed_again-7.ensures;
}

pub returns : goal.returns
returns c kind value valid = read_again (laws c) (family_of kind) value valid
