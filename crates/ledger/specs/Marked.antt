-- The scope paper's marked list as one computed check; its worked example, one of nets, one of bands, one of fills, one of coverage, one of senders, one of remainders, one of previews and one of windows as computed runs of the ledger; and a computed check of openings with windows.
use Rattle.std.specs.Prelude.{◌≡◌, ℕ, zero, suc, ◌/◌, ◌%◌, Bool, true, false, not, ◌&&◌, List, [], ◌∷◌, ◌++◌, map, replicate, ℤ, pos, negsuc, ◌==◌}
use Rattle.std.specs.Bool.{beq}
use Rattle.std.proofs.Math.Option.{some}
use Rattle.metering.specs.Mpan.{mpan_valid}
use Rattle.metering.specs.Average.{average, annual}
use Rattle.metering.specs.Range.{between}
use Rattle.metering.specs.Calendar.{periods_per_day, period_ending, lies_within}
use Rattle.ledger.specs.Method.{Category, window_at, method_windows, HeldSet, Picture, fresh_in, Flag, A, D, E, N, Cell, blank, ran, cell_on, same_cell}
use Rattle.ledger.specs.Fill.{ShapeOf, of_category, of_opted_out}
use Rattle.ledger.specs.Checks.{opening_check, record_number}
use Rattle.ledger.specs.Ledger.{Opening, Ledger, Call, register, receive, run, read_totals, read_cell, read_net, search_band, fill_hole, read_coverage, preview, read_row, Answer, refused, accepted, moved, totals_are, cell_is, net_is, band_is, filled_are, coverage_is, row_is, Lengths, least_lengths, ledger_answer, ledger_after}
use Rattle.ledger.specs.Engine.{Parts, opened_parts, Item, store_answers, lengths_of}
use Rattle.ledger.specs.Demands.{Accepts}

-- the test holds of the n periods from 1 on
unfoldable pub every_period : ℕ → (ℕ → Bool) → Bool
every_period zero f = true
every_period (suc n) f = every_period n f && f (suc n)

-- window w of METH005's at a duration is the periods from low to high
unfoldable pub window_is : ℕ → ℕ → ℕ → ℕ → Bool
window_is d w low high =
    let own = window_at method_windows w in
    every_period (periods_per_day d) (λ j. beq (lies_within d own.start own.end j) (between low high j))

-- the Smart import category of a GSP group, with a de-minimis count
abbrev pub smart : ℕ → ℕ → Category
smart g m = record { segment = 1; group = g; domestic = 1; quantity = 1; connection = 1; window = 0; de_minimis = m }

-- groups A and B
abbrev pub two_groups : ℕ → ℕ → Category
two_groups m c = smart (suc c) m

abbrev pub reads : ℕ → ℕ → HeldSet
reads c w = record { category = c; readings = λ j. some w }

-- the cell of date 0, run with a picture
unfoldable pub first_cell : (ℕ → Category) → Picture → Cell
first_cell categories picture = cell_on (λ d. 1) (λ d. ran (fresh_in categories picture 0 1)) 0

-- end minute 0, quality 1, 5 Wh
abbrev pub ends_at_zero : List ℕ
ends_at_zero = 0 ∷ 0 ∷ 1 ∷ 0 ∷ 0 ∷ 0 ∷ 5 ∷ []

unfoldable pub marked_list : Bool
marked_list =
    mpan_valid 1000000000003 && not (mpan_valid 1000000000004) && mpan_valid 1010000000000 && not (mpan_valid 0)
    && average 5 2 == 3 && average 4 3 == 1
    && record_number 30 1 10 ends_at_zero 0 == 1005 && period_ending 30 1440 == 48
    && window_is 30 2 2 15 && window_is 15 2 3 30
    && same_cell (first_cell (two_groups 0) []) blank
    && same_cell (first_cell (two_groups 3) (reads 0 100 ∷ reads 1 200 ∷ reads 1 600 ∷ [])) (record { flag = D; value = 300; count = 3; origin = 0; remainder = pos 0 })
    && annual 1000 3 == 121667

-- ---- the worked example

abbrev pub example_mpan : ℕ
example_mpan = 1000000000003

-- two dates of day type 1, one Smart category with window 1 and de-minimis 1
abbrev pub example_opening : Opening
example_opening = record { duration = 30; meters = 1; window_minutes = method_windows; category_bytes = 1 ∷ 1 ∷ 1 ∷ 1 ∷ 1 ∷ 1 ∷ 0 ∷ 1 ∷ []; day_types = 1 ∷ 1 ∷ [] }

-- 500 Wh in period 1, 250 Wh in period 16
abbrev pub example_calls : List Call
example_calls =
    register (record { mpan = example_mpan; date = 0; minute = 0; category = 0; sender = 7; status = 1; limit = 10000 })
    ∷ receive
    (record {
      sender = 7;
      mpan = example_mpan;
      date = 0;
      duration = 30;
      quantity = 1;
      body = 0 ∷ 30 ∷ 1 ∷ 0 ∷ 0 ∷ 1 ∷ 244 ∷ 1 ∷ 224 ∷ 1 ∷ 0 ∷ 0 ∷ 0 ∷ 250 ∷ [];
    })
    ∷ run 0
    ∷ run 1
    ∷ read_totals 1 0
    ∷ read_cell 0 1 3
    ∷ []

abbrev pub example_answers : List Answer
example_answers =
    accepted
    ∷ accepted
    ∷ moved 2
    ∷ moved 2
    ∷ totals_are
    (record { tot = 750; off = 500; peak = 250; tot7 = 1500; off7 = 1000; peak7 = 500; days7 = 2; ann = 273750; days = 2; fresh = 0; blanks = 46 })
    ∷ refused 15 0
    ∷ []

-- the ledger's answers to a list of calls, each lent parts of the lengths n
unfoldable pub ledger_run : Ledger → Lengths → List Call → List Answer
ledger_run l n [] = []
ledger_run l n (a ∷ rest) = ledger_answer l n a ∷ ledger_run (ledger_after l n a) n rest

-- ---- a worked example of nets (change request 2026-13)

-- import and export of groups A and B, the last with de-minimis 2; two dates of one day type
abbrev pub net_opening : Opening
net_opening =
    record {
      duration = 30;
      meters = 3;
      window_minutes = [];
      category_bytes =
          1 ∷ 1 ∷ 1 ∷ 1 ∷ 1 ∷ 0 ∷ 0 ∷ 1
          ∷ 1 ∷ 1 ∷ 1 ∷ 2 ∷ 1 ∷ 0 ∷ 0 ∷ 1
          ∷ 1 ∷ 2 ∷ 1 ∷ 1 ∷ 1 ∷ 0 ∷ 0 ∷ 1
          ∷ 1 ∷ 2 ∷ 1 ∷ 2 ∷ 1 ∷ 0 ∷ 0 ∷ 2
          ∷ [];
      day_types = 1 ∷ 1 ∷ [];
    }

abbrev pub appoints : ℕ → ℕ → ℕ → ℕ → ℕ → ℕ → Call
appoints mpan date minute c sender limit =
    register (record { mpan = mpan; date = date; minute = minute; category = c; sender = sender; status = 1; limit = limit })

abbrev pub registers : ℕ → ℕ → Call
registers mpan c = appoints mpan 0 0 c 7 10000

abbrev pub sends_by : ℕ → ℕ → ℕ → ℕ → List ℕ → Call
sends_by sender mpan date quantity body =
    receive (record { sender = sender; mpan = mpan; date = date; duration = 30; quantity = quantity; body = body })

abbrev pub sends : ℕ → ℕ → ℕ → List ℕ → Call
sends = sends_by 7

-- a record of quality 1 with fewer than 65,536 Wh
abbrev pub half : ℕ → ℕ → List ℕ → List ℕ
half end wh rest = end / 256 ∷ end % 256 ∷ 1 ∷ 0 ∷ 0 ∷ wh / 256 ∷ wh % 256 ∷ rest

abbrev pub asks_net : Bool → ℕ → ℕ → Call
asks_net all_groups d c = read_net (record { all_groups = all_groups; date = d; category = c; numbers = 48; marks = 50 })

-- 400, 100 and 50 Wh in periods 1 to 3 of category 0; 150 and 350 Wh in periods 1 and 2 of category 1; 200 Wh in period 1 of category 2
abbrev pub net_calls : List Call
net_calls =
    registers 1000000000003 0
    ∷ registers 1010000000000 1
    ∷ registers 29 2
    ∷ sends 1000000000003 0 1 (half 30 400 (half 60 100 (half 90 50 [])))
    ∷ sends 1010000000000 0 2 (half 30 150 (half 60 350 []))
    ∷ sends 29 0 1 (half 30 200 [])
    ∷ run 0
    ∷ asks_net false 0 0
    ∷ asks_net false 0 2
    ∷ asks_net true 0 0
    ∷ asks_net true 0 2
    ∷ asks_net false 1 1
    ∷ asks_net false 1 0
    ∷ read_net (record { all_groups = false; date = 2; category = 0; numbers = 48; marks = 47 })
    ∷ run 1
    ∷ asks_net false 1 0
    ∷ []

-- the first three periods of a net, the others being 0, and their marks, the others being 1
abbrev pub net_of : ℤ → ℤ → ℤ → ℤ → ℤ → ℕ → ℕ → ℕ → Answer
net_of tot tot7 a b c x y z =
    net_is (record { tot = tot; tot7 = tot7; periods = a ∷ b ∷ c ∷ replicate 45 (pos 0); marks = x ∷ y ∷ z ∷ replicate 45 1 })

-- a mark is a cell that is N: none in the first two periods of group A, one in each period of group B, whose export never had two readings
abbrev pub net_answers : List Answer
net_answers =
    accepted ∷ accepted ∷ accepted ∷ accepted ∷ accepted ∷ accepted
    ∷ moved 8
    ∷ net_of (pos 50) (pos 50) (pos 250) (negsuc 249) (pos 50) 0 0 1
    ∷ net_of (pos 350) (pos 350) (pos 200) (pos 100) (pos 50) 1 1 1
    ∷ net_of (pos 400) (pos 400) (pos 450) (negsuc 149) (pos 100) 1 1 1
    ∷ net_of (pos 400) (pos 400) (pos 450) (negsuc 149) (pos 100) 1 1 1
    ∷ refused 26 0
    ∷ refused 14 0
    ∷ refused 1 0
    ∷ moved 8
    ∷ net_of (pos 50) (pos 100) (pos 250) (negsuc 249) (pos 50) 0 0 1
    ∷ []

-- ---- a worked example of bands (change request 2026-14)

-- five dates, the second of another day type
abbrev pub band_opening : Opening
band_opening =
    record { duration = 30; meters = 1; window_minutes = []; category_bytes = 1 ∷ 1 ∷ 1 ∷ 1 ∷ 1 ∷ 0 ∷ 0 ∷ 1 ∷ []; day_types = 1 ∷ 2 ∷ 1 ∷ 1 ∷ 1 ∷ [] }

abbrev pub sends_day : ℕ → ℕ → Call
sends_day date wh = sends example_mpan date 1 (half 30 wh [])

abbrev pub asks_band : ℕ → ℕ → ℕ → ℕ → Call
asks_band day_type least most room = search_band (record { category = 0; day_type = day_type; least = least; most = most; room = room })

-- TOT is 700, 700, 900 and 650 on dates 0 to 3; date 4 is run later, as a copy of date 3
abbrev pub band_calls : List Call
band_calls =
    registers example_mpan 0
    ∷ sends_day 0 700
    ∷ sends_day 1 700
    ∷ sends_day 2 900
    ∷ sends_day 3 650
    ∷ run 0
    ∷ run 1
    ∷ run 2
    ∷ run 3
    ∷ asks_band 1 650 700 5
    ∷ asks_band 1 0 1000 2
    ∷ asks_band 2 0 1000 2
    ∷ asks_band 1 701 700 5
    ∷ asks_band 17 0 1000 5
    ∷ search_band (record { category = 1; day_type = 1; least = 701; most = 700; room = 5 })
    ∷ run 4
    ∷ asks_band 1 650 650 5
    ∷ []

abbrev pub band_of : ℕ → ℕ → List ℕ → Answer
band_of written found dates = band_is (record { written = written; found = found; dates = dates })

abbrev pub band_answers : List Answer
band_answers =
    accepted ∷ accepted ∷ accepted ∷ accepted ∷ accepted
    ∷ moved 1 ∷ moved 1 ∷ moved 1 ∷ moved 1
    ∷ band_of 2 2 (0 ∷ 3 ∷ [])
    ∷ band_of 2 3 (0 ∷ 2 ∷ [])
    ∷ band_of 1 1 (1 ∷ [])
    ∷ band_of 0 0 []
    ∷ band_of 0 0 []
    ∷ refused 15 0
    ∷ moved 1
    ∷ band_of 2 2 (3 ∷ 4 ∷ [])
    ∷ []

-- ---- a worked example of fills (change request 2026-01)

-- Smart import of group A, domestic and not, and Advanced import of another connection; two dates of one day type
abbrev pub fill_opening : Opening
fill_opening =
    record {
      duration = 30;
      meters = 1;
      window_minutes = [];
      category_bytes =
          1 ∷ 1 ∷ 1 ∷ 1 ∷ 1 ∷ 0 ∷ 0 ∷ 1
          ∷ 1 ∷ 1 ∷ 2 ∷ 1 ∷ 1 ∷ 0 ∷ 0 ∷ 1
          ∷ 2 ∷ 0 ∷ 0 ∷ 1 ∷ 2 ∷ 0 ∷ 0 ∷ 1
          ∷ [];
      day_types = 1 ∷ 1 ∷ [];
    }

-- the marks of the first five periods, the others being 0
abbrev pub missing : ℕ → ℕ → ℕ → ℕ → ℕ → List ℕ
missing a b c d e = a ∷ b ∷ c ∷ d ∷ e ∷ replicate 43 0

abbrev pub asks_shape : ShapeOf → ℕ → List ℕ → Call
asks_shape shape advance marks = fill_hole (record { shape = shape; date = 0; advance = advance; marks = marks; room = 48 })

abbrev pub asks_fill : ℕ → List ℕ → Call
asks_fill advance marks = asks_shape (of_category 0) advance marks

abbrev pub asks_date : ℕ → List ℕ → ℕ → Call
asks_date date marks room = fill_hole (record { shape = of_category 0; date = date; advance = 100; marks = marks; room = room })

-- 500, 300, 300 and 0 Wh in periods 1 to 4 of category 0
abbrev pub fill_calls : List Call
fill_calls =
    registers example_mpan 0
    ∷ sends example_mpan 0 1 (half 30 500 (half 60 300 (half 90 300 (half 120 0 []))))
    ∷ run 0
    ∷ asks_fill 100 (missing 1 1 1 1 0)
    ∷ asks_fill 1001 (missing 0 1 255 0 0)
    ∷ asks_fill 2 (missing 1 1 1 0 0)
    ∷ asks_fill 4294967295 (missing 1 1 0 0 0)
    ∷ asks_fill 100 (missing 0 0 0 1 1)
    ∷ asks_fill 100 (missing 0 0 0 0 0)
    ∷ asks_shape (of_opted_out 1 1 1) 100 (missing 1 1 1 1 0)
    ∷ asks_shape (of_opted_out 1 1 2) 100 (missing 1 1 1 1 0)
    ∷ asks_shape (of_opted_out 2 1 1) 100 (missing 1 1 1 1 0)
    ∷ asks_shape (of_category 3) 100 (missing 1 1 1 1 0)
    ∷ asks_date 1 (missing 0 0 0 0 0) 48
    ∷ asks_date 2 (missing 1 1 1 1 0) 48
    ∷ asks_date 2 (replicate 47 1) 48
    ∷ asks_date 0 (missing 1 1 1 1 0) 47
    ∷ read_totals 0 0
    ∷ []

-- the first four periods, the others being 0
abbrev pub filled_of : ℕ → ℕ → ℕ → ℕ → Answer
filled_of a b c d = filled_are (a ∷ b ∷ c ∷ d ∷ replicate 44 0)

-- the Advanced category of connection 2 is no shape for an opted-out meter
abbrev pub fill_answers : List Answer
fill_answers =
    accepted ∷ accepted
    ∷ moved 4
    ∷ filled_of 46 27 27 0
    ∷ filled_of 0 501 500 0
    ∷ filled_of 1 1 0 0
    ∷ filled_of 2684354559 1610612736 0 0
    ∷ refused 17 0
    ∷ refused 17 0
    ∷ filled_of 46 27 27 0
    ∷ refused 15 0
    ∷ refused 15 0
    ∷ refused 15 0
    ∷ refused 14 0
    ∷ refused 9 0
    ∷ refused 1 0
    ∷ refused 1 0
    ∷ totals_are
    (record { tot = 1100; off = 0; peak = 0; tot7 = 1100; off7 = 0; peak7 = 0; days7 = 1; ann = 401500; days = 1; fresh = 4; blanks = 44 })
    ∷ []

-- ---- a worked example of coverage (change request 2026-02)

-- nine dates of one day type
abbrev pub coverage_opening : Opening
coverage_opening =
    record {
      duration = 30;
      meters = 1;
      window_minutes = [];
      category_bytes = 1 ∷ 1 ∷ 1 ∷ 1 ∷ 1 ∷ 0 ∷ 0 ∷ 1 ∷ [];
      day_types = replicate 9 1;
    }

-- readings in periods 1 to 3 of date 0 and in period 1 of date 4; later date 0 has one in period 1 alone, with its old value
abbrev pub coverage_calls : List Call
coverage_calls =
    registers example_mpan 0
    ∷ sends example_mpan 0 1 (half 30 500 (half 60 300 (half 90 200 [])))
    ∷ sends_day 4 400
    ∷ run 0
    ∷ run 4
    ∷ run 8
    ∷ read_coverage 0 0
    ∷ read_coverage 4 0
    ∷ read_coverage 8 0
    ∷ sends_day 0 500
    ∷ run 0
    ∷ read_coverage 0 0
    ∷ read_coverage 4 0
    ∷ read_coverage 8 0
    ∷ read_coverage 7 0
    ∷ read_coverage 8 1
    ∷ read_coverage 9 1
    ∷ []

abbrev pub coverage_given : ℕ → ℕ → ℕ → ℕ → ℕ → Answer
coverage_given fresh7 blanks7 fresh365 blanks365 oldest =
    coverage_is (record { fresh7 = fresh7; blanks7 = blanks7; fresh365 = fresh365; blanks365 = blanks365; oldest = oldest })

-- date 0 is among the seven of date 4 and not among those of date 8
abbrev pub coverage_answers : List Answer
coverage_answers =
    accepted ∷ accepted ∷ accepted
    ∷ moved 3
    ∷ moved 3
    ∷ moved 3
    ∷ coverage_given 3 45 3 45 0
    ∷ coverage_given 4 90 4 90 0
    ∷ coverage_given 1 90 4 135 0
    ∷ accepted
    ∷ moved 6
    ∷ coverage_given 1 47 1 47 0
    ∷ coverage_given 2 94 2 94 4
    ∷ coverage_given 1 94 2 141 4
    ∷ refused 14 0
    ∷ refused 15 0
    ∷ refused 9 0
    ∷ []

-- ---- a worked example of senders (change request 2026-03)

-- two categories of families of their own, four dates
abbrev pub sender_opening : Opening
sender_opening =
    record {
      duration = 30;
      meters = 2;
      window_minutes = [];
      category_bytes =
          1 ∷ 1 ∷ 1 ∷ 1 ∷ 1 ∷ 0 ∷ 0 ∷ 1
          ∷ 1 ∷ 1 ∷ 1 ∷ 1 ∷ 2 ∷ 0 ∷ 0 ∷ 1
          ∷ [];
      day_types = 1 ∷ 1 ∷ 1 ∷ 1 ∷ [];
    }

abbrev pub other_mpan : ℕ
other_mpan = 1010000000000

-- a day with one reading
abbrev pub sent_by : ℕ → ℕ → ℕ → ℕ → Call
sent_by sender mpan date wh = sends_by sender mpan date 1 (half 30 wh [])

-- The first meter changes its service at 09:00 of date 1 and again at minute 721 of date 2; the other one starts at 10:00 of date 1 and
-- changes at minute 720 of date 2.
abbrev pub sender_calls : List Call
sender_calls =
    appoints example_mpan 0 0 0 7 10000
    ∷ appoints example_mpan 1 540 1 8 10
    ∷ sent_by 7 example_mpan 1 50
    ∷ sent_by 8 example_mpan 1 50
    ∷ run 1
    ∷ read_cell 1 0 1
    ∷ read_cell 1 1 1
    ∷ sent_by 8 example_mpan 2 50
    ∷ appoints example_mpan 2 721 0 9 10000
    ∷ sent_by 9 example_mpan 2 10
    ∷ sent_by 8 example_mpan 2 10
    ∷ appoints other_mpan 1 600 0 5 10000
    ∷ sent_by 5 other_mpan 1 50
    ∷ sent_by 5 other_mpan 2 50
    ∷ appoints other_mpan 2 0 0 6 10000
    ∷ appoints other_mpan 2 720 0 6 10000
    ∷ sent_by 5 other_mpan 2 50
    ∷ sent_by 6 other_mpan 2 50
    ∷ appoints example_mpan 3 540 0 8 10000
    ∷ []

-- date 1 of the first meter counts for category 0 still, under the limit of then; the other meter has no category on date 1
abbrev pub sender_answers : List Answer
sender_answers =
    accepted
    ∷ accepted
    ∷ refused 1001 0
    ∷ accepted
    ∷ moved 1
    ∷ cell_is (record { flag = A; value = 50; count = 1; origin = 1; remainder = pos 0 })
    ∷ cell_is (record { flag = N; value = 0; count = 0; origin = 65535; remainder = pos 0 })
    ∷ refused 1012 1
    ∷ accepted
    ∷ refused 1001 0
    ∷ accepted
    ∷ accepted
    ∷ refused 7 0
    ∷ accepted
    ∷ refused 10 0
    ∷ accepted
    ∷ refused 1001 0
    ∷ accepted
    ∷ refused 16 0
    ∷ []

-- ---- a worked example of remainders (change request 2026-04)

-- the Smart import categories of groups A and B, two dates
abbrev pub remainder_opening : Opening
remainder_opening =
    record {
      duration = 30;
      meters = 3;
      window_minutes = [];
      category_bytes =
          1 ∷ 1 ∷ 1 ∷ 1 ∷ 1 ∷ 0 ∷ 0 ∷ 1
          ∷ 1 ∷ 2 ∷ 1 ∷ 1 ∷ 1 ∷ 0 ∷ 0 ∷ 1
          ∷ [];
      day_types = 1 ∷ 1 ∷ [];
    }

-- three meters in category 0 have 10, 11 and 13 Wh in period 1; the third has 12 Wh later, and then none
abbrev pub remainder_calls : List Call
remainder_calls =
    registers example_mpan 0
    ∷ registers other_mpan 0
    ∷ registers 29 0
    ∷ sends example_mpan 0 1 (half 30 10 [])
    ∷ sends other_mpan 0 1 (half 30 11 [])
    ∷ sends 29 0 1 (half 30 13 [])
    ∷ run 0
    ∷ run 1
    ∷ read_cell 0 0 1
    ∷ read_cell 0 1 1
    ∷ read_cell 1 0 1
    ∷ read_cell 1 1 1
    ∷ sends 29 0 1 (half 30 12 [])
    ∷ run 0
    ∷ read_cell 0 0 1
    ∷ read_cell 1 1 1
    ∷ sends 29 0 1 []
    ∷ run 0
    ∷ read_cell 0 0 1
    ∷ read_cell 0 1 1
    ∷ read_cell 1 0 1
    ∷ read_cell 0 0 2
    ∷ []

-- a cell of value 11 that date 0 gave
abbrev pub eleven_of : Flag → ℕ → ℤ → Answer
eleven_of f n r = cell_is (record { flag = f; value = 11; count = n; origin = 0; remainder = r })

-- 34 over 3, 33 over 3 and 21 over 2: what rounding drops alone moves all four cells
abbrev pub remainder_answers : List Answer
remainder_answers =
    accepted ∷ accepted ∷ accepted ∷ accepted ∷ accepted ∷ accepted
    ∷ moved 2
    ∷ moved 2
    ∷ eleven_of A 3 (pos 1)
    ∷ eleven_of D 3 (pos 1)
    ∷ eleven_of E 3 (pos 1)
    ∷ eleven_of E 3 (pos 1)
    ∷ accepted
    ∷ moved 4
    ∷ eleven_of A 3 (pos 0)
    ∷ eleven_of E 3 (pos 0)
    ∷ accepted
    ∷ moved 4
    ∷ eleven_of A 2 (negsuc 0)
    ∷ eleven_of D 2 (negsuc 0)
    ∷ eleven_of E 2 (negsuc 0)
    ∷ cell_is (record { flag = N; value = 0; count = 0; origin = 65535; remainder = pos 0 })
    ∷ []

-- ---- a worked example of previews and rows (change request 2026-05)

-- the Smart import category of group A and an Advanced one, three dates of one day type
abbrev pub preview_opening : Opening
preview_opening =
    record {
      duration = 30;
      meters = 1;
      window_minutes = [];
      category_bytes =
          1 ∷ 1 ∷ 1 ∷ 1 ∷ 1 ∷ 0 ∷ 0 ∷ 1
          ∷ 2 ∷ 0 ∷ 0 ∷ 1 ∷ 1 ∷ 0 ∷ 0 ∷ 1
          ∷ [];
      day_types = 1 ∷ 1 ∷ 1 ∷ [];
    }

-- of category 0, beside a draft lent whole
abbrev pub shows_row : ℕ → ℕ → Call
shows_row switch d = read_row (record { date = d; category = 0; switch = switch; lent = 96 })

-- 5 Wh in period 1, then 6 and 9 Wh in periods 1 and 2
abbrev pub preview_calls : List Call
preview_calls =
    registers example_mpan 0
    ∷ sends example_mpan 0 1 (half 30 5 [])
    ∷ run 0
    ∷ run 1
    ∷ sends example_mpan 0 1 (half 30 6 (half 60 9 []))
    ∷ shows_row 1 0
    ∷ preview (record { date = 0; lent = 95 })
    ∷ preview (record { date = 3; lent = 95 })
    ∷ preview (record { date = 3; lent = 96 })
    ∷ preview (record { date = 0; lent = 200 })
    ∷ read_cell 0 0 1
    ∷ read_cell 1 0 1
    ∷ shows_row 1 0
    ∷ shows_row 0 0
    ∷ shows_row 0 2
    ∷ shows_row 1 2
    ∷ shows_row 0 3
    ∷ shows_row 2 3
    ∷ read_row (record { date = 0; category = 0; switch = 0; lent = 95 })
    ∷ read_row (record { date = 2; category = 2; switch = 0; lent = 96 })
    ∷ run 0
    ∷ shows_row 0 0
    ∷ []

-- a cell of one reading that date 0 gave
abbrev pub one_reading : Flag → ℕ → Cell
one_reading f v = record { flag = f; value = v; count = 1; origin = 0; remainder = pos 0 }

-- a row with some cells in front, and no shape for the other periods of 48
unfoldable pub row_with : List Cell → ℕ → Answer
row_with cells n = row_is (cells ++ replicate n blank)

abbrev pub preview_answers : List Answer
preview_answers =
    accepted ∷ accepted
    ∷ moved 1
    ∷ moved 1
    ∷ accepted
    ∷ row_with [] 48
    ∷ refused 18 0
    ∷ refused 18 0
    ∷ refused 9 0
    ∷ moved 4
    ∷ cell_is (one_reading A 5)
    ∷ cell_is (one_reading E 5)
    ∷ row_with (one_reading A 6 ∷ one_reading A 9 ∷ []) 46
    ∷ row_with (one_reading A 5 ∷ []) 47
    ∷ refused 14 0
    ∷ row_with (one_reading A 6 ∷ one_reading A 9 ∷ []) 46
    ∷ refused 9 0
    ∷ refused 9 0
    ∷ refused 18 0
    ∷ refused 15 0
    ∷ moved 4
    ∷ row_with (one_reading A 6 ∷ one_reading A 9 ∷ []) 46
    ∷ []

-- ---- a worked example of windows (change request 2026-06)

-- three groups of one family with a window each: two hours before noon, the day's last hour, and the whole day
abbrev pub window_opening : Opening
window_opening =
    record {
      duration = 30;
      meters = 1;
      window_minutes = 600 ∷ 720 ∷ 1380 ∷ 1440 ∷ 0 ∷ 1440 ∷ [];
      category_bytes =
          1 ∷ 1 ∷ 1 ∷ 1 ∷ 1 ∷ 1 ∷ 0 ∷ 1
          ∷ 1 ∷ 2 ∷ 1 ∷ 1 ∷ 1 ∷ 2 ∷ 0 ∷ 1
          ∷ 1 ∷ 3 ∷ 1 ∷ 1 ∷ 1 ∷ 3 ∷ 0 ∷ 1
          ∷ [];
      day_types = 1 ∷ [];
    }

-- readings just before, within and just after the first window, and in the day's last period
abbrev pub window_calls : List Call
window_calls =
    registers example_mpan 0
    ∷ sends example_mpan 0 1 (half 600 10 (half 630 20 (half 720 40 (half 750 80 (half 1440 160 [])))))
    ∷ run 0
    ∷ read_totals 0 0
    ∷ read_totals 0 1
    ∷ read_totals 0 2
    ∷ []

abbrev pub off_and_peak : ℕ → ℕ → Answer
off_and_peak off peak =
    totals_are
    (record { tot = 310; off = off; peak = peak; tot7 = 310; off7 = off; peak7 = peak; days7 = 1; ann = 113150; days = 1; fresh = 5; blanks = 43 })

abbrev pub window_answers : List Answer
window_answers = accepted ∷ accepted ∷ moved 15 ∷ off_and_peak 60 250 ∷ off_and_peak 160 150 ∷ off_and_peak 310 0 ∷ []

-- an opening with these minutes and one category with window w is answered so, accepted with number 0
unfoldable pub opens_with : ℕ → List ℕ → ℕ → ℕ → ℕ → Bool
opens_with duration minutes w number place =
    let given =
    opening_check
    (record { duration = duration; meters = 1; window_minutes = minutes; category_bytes = 1 ∷ 1 ∷ 1 ∷ 1 ∷ 1 ∷ w ∷ 0 ∷ 1 ∷ []; day_types = 1 ∷ [] })
    false in
    (given.number == number) && given.place == place

-- a window over and over
unfoldable pub repeated : ℕ → List ℕ
repeated zero = []
repeated (suc n) = 0 ∷ 30 ∷ repeated n

unfoldable pub window_list : Bool
window_list =
    opens_with 30 [] 0 0 0 && opens_with 30 [] 1 4 1
    && opens_with 15 (45 ∷ 75 ∷ []) 1 0 0 && opens_with 30 (45 ∷ 75 ∷ []) 1 19 1
    && opens_with 30 (0 ∷ 420 ∷ 450 ∷ 450 ∷ []) 1 19 2
    && opens_with 30 (0 ∷ 420 ∷ 30 ∷ []) 1 19 2
    && opens_with 30 (0 ∷ 30 ∷ 60 ∷ 30 ∷ 0 ∷ []) 1 19 2
    && opens_with 30 (1410 ∷ 1440 ∷ 1440 ∷ 1470 ∷ []) 1 19 2
    && opens_with 30 (repeated 8) 8 0 0 && opens_with 30 (repeated 9) 9 19 9 && opens_with 30 (repeated 20) 8 19 9
    && opens_with 30 (0 ∷ 420 ∷ []) 2 4 1 && opens_with 60 (0 ∷ 45 ∷ []) 1 3 0

-- ---- all nine, computed

-- beside a draft of 96 entries that are 0 at first
abbrev pub example_draft : List ℕ
example_draft = replicate 96 0

-- ---- the same on the engine, from its opening on

-- each call lent parts of the least lengths
abbrev pub lent_least : Opening → List Call → List Item
lent_least a calls = map (λ c. record { lent = least_lengths a; call = c }) calls

-- in such parts, whatever they hold, and beside such a draft the opening is accepted and the calls after it get these answers
abbrev pub EngineAnswers : Opening → List Call → List Answer → Type 0
EngineAnswers a calls answers =
    (p : Parts) → lengths_of p ≡ least_lengths a → p.draft ≡ example_draft → Accepts p a × (store_answers (opened_parts p a) (lent_least a calls) ≡ answers)

-- all nine examples
abbrev pub WorkedOnEngine : Type 0
WorkedOnEngine =
    EngineAnswers example_opening example_calls example_answers
    × EngineAnswers net_opening net_calls net_answers
    × EngineAnswers band_opening band_calls band_answers
    × EngineAnswers fill_opening fill_calls fill_answers
    × EngineAnswers coverage_opening coverage_calls coverage_answers
    × EngineAnswers sender_opening sender_calls sender_answers
    × EngineAnswers remainder_opening remainder_calls remainder_answers
    × EngineAnswers preview_opening preview_calls preview_answers
    × EngineAnswers window_opening window_calls window_answers
