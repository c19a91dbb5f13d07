-- What is promised of the least lengths.
use Rattle.std.proofs.Common.{ℕ, ◌+◌, ◌*◌, ◌≤◌, ⊎_elim, mul-le-mul_right, mul-le-mul_left, arith}
use Rattle.metering.specs.Calendar.{periods_per_day}
use Rattle.ledger.specs.Sizes.{settings_length, meters_length, readings_length, cells_length, days_length}
use Rattle.ledger.specs.Demands.{PartsBounded}

-- with 48 periods or more
bounded : (M C T P : ℕ) → 1 ≤ M → 1 ≤ C → 1 ≤ T → 48 ≤ P →
    let most = 64 * (M + C) * T * P in
    (settings_length C T ≤ most) × (meters_length M ≤ most) × (readings_length M T P ≤ most) × (cells_length C T P ≤ most)
    × (days_length C T ≤ most)
unfolding settings_length meters_length readings_length cells_length days_length
bounded M C T P m c t h =
    let MT : M ≤ M * T = omega (arith, mul-le-mul_left M t) in
    let CT : C ≤ C * T = omega (arith, mul-le-mul_left C t) in
    let TC : T ≤ C * T = omega (arith, mul-le-mul_right T c) in
    let MTP : M * T * 48 ≤ M * T * P = mul-le-mul_left (M * T) h in
    let CTP : C * T * 48 ≤ C * T * P = mul-le-mul_left (C * T) h in
    (omega arith, omega arith, omega arith, omega arith, omega arith)

pub parts_bounded : PartsBounded
unfolding periods_per_day
parts_bounded M C T duration m c t is =
    ⊎_elim
    (λ e. rw e (bounded M C T 96 m.0 c.0 t.0 (omega arith)))
    (λ e. rw e (bounded M C T 48 m.0 c.0 t.0 (omega arith)))
    is
