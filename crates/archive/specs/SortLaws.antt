-- No field of a line is wider than a u64. Assumes nothing.
use Rattle.std.proofs.Common.{◌≤◌, All, rules}
use Rattle.archive.specs.Lines.{place_fields, closing_fields, heading_fields, widths_of}

pub narrow_place : All (λ w. w ≤ 8) (widths_of place_fields)
narrow_place = search rules

pub narrow_closing : All (λ w. w ≤ 8) (widths_of closing_fields)
narrow_closing = search rules

pub narrow_heading : All (λ w. w ≤ 8) (widths_of heading_fields)
narrow_heading = search rules
