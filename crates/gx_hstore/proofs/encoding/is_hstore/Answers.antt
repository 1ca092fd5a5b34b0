-- Pairs that rise and are text are a valid map.
use Rattle.gx_hstore.proofs.encoding.is_hstore.Goals as goal

pub returns-then-is_map : goal.returns-then-is_map
returns-then-is_map c =
    (λ t. record { is_map = c.is_map.ensures.0 c.if-is_map.true; texts = c.are_texts.ensures.0 t }, λ h. c.are_texts.ensures.1 h.texts)
