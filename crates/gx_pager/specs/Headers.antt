-- Page 0, as a header.
use Rattle.std.specs.Prelude.{ℕ, ◌^◌, ◌==◌, nat_lt, if◌then◌else◌, List, take, drop, Option, Some, None}
use Rattle.gx_bytes.specs.Fields.{of32, of64}

-- The first of these numbers that isn't what it has to be, and before it what it has to be.
abbrev pub wrong_number : ℕ → ℕ → ℕ → Option (ℕ × ℕ)
wrong_number magic format count =
    if magic == 1481197392 then (if format == 2 then (if nat_lt count 2 then Some (2, count)
    else (if nat_lt (2 ^ 50) count then Some (2 ^ 50, count)
    else None))
    else Some (2, format))
    else Some (1481197392, magic)

-- The same of a header: its magic number, its format, its count.
abbrev pub wrong_field : List ℕ → Option (ℕ × ℕ)
wrong_field header = wrong_number (of32 (take 4 (drop 0 header))) (of32 (take 4 (drop 4 header))) (of64 (take 8 (drop 8 header)))
