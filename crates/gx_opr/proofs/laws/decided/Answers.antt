use Rattle.gx_opr.proofs.DecisionLemmas.{Laws, all_decided}
use Rattle.gx_opr.proofs.laws.decided.Goals as goal

laws : (c : goal.After-decided-4) → Laws
laws c = record {
  of_range = c.decided.ensures.ranges;
  of_element = c.decided.ensures.elements;
  of_inet = c.decided-2.ensures;
  of_label = c.holds_decided.ensures;
  of_variant = c.matching_decided.ensures.variant;
  of_query = c.matching_decided.ensures.path;
  of_queries = c.matching_decided.ensures.any;
  of_map = c.decided-3.ensures;
  of_array = c.holds_decided-2.ensures;
  of_document = c.decided-4.ensures;
}

pub returns : goal.returns
returns c = all_decided (laws c)
