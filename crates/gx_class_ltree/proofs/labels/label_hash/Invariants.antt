use Rattle.std.proofs.Common.{◌≡◌, take, map}
use Rattle.std.specs.Char.{to_ascii_lowercase}
use Rattle.gx_bytes.specs.Hash.{hash_from}
use Rattle.gx_class_ltree.proofs.labels.label_hash.Given as goal

abbrev pub invariant-loop-byte : goal.invariant-loop-byte
invariant-loop-byte l = l.hash ≡ hash_from 2166136261 (map to_ascii_lowercase (take l.byte-index l.label))
