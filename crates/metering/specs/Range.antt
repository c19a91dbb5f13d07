-- Ranges of what an opening takes, and its category records.
use Rattle.std.specs.Prelude.{ℕ, Bool, ◌&&◌, ◌||◌, List, leb, eqb, get_or}

unfoldable pub between : ℕ → ℕ → ℕ → Bool
between low high x = leb low x && leb x high

-- how many meters (M), category records (C) and dates (T) an opening may take
unfoldable pub meters_in_range : ℕ → Bool
meters_in_range m = between 1 1024 m

unfoldable pub categories_in_range : ℕ → Bool
categories_in_range c = between 1 64 c

unfoldable pub dates_in_range : ℕ → Bool
dates_in_range t = between 1 800 t

unfoldable pub day_type_valid : ℕ → Bool
day_type_valid b = between 1 16 b

-- the first six of a category record's eight bytes: segment, GSP group, domestic, quantity, connection, and a window of so many, by its place,
-- or 0
unfoldable pub smart_valid : ℕ → List ℕ → Bool
smart_valid windows r =
    eqb (get_or r 0 0) 1 && between 1 14 (get_or r 1 0) && between 1 2 (get_or r 2 0) && between 1 2 (get_or r 3 0) && between 1 4 (get_or r 4 0)
    && between 0 windows (get_or r 5 0)

-- Advanced has group, domestic and window 0
unfoldable pub advanced_valid : List ℕ → Bool
advanced_valid r =
    eqb (get_or r 0 0) 2 && between 0 0 (get_or r 1 0) && between 0 0 (get_or r 2 0) && between 1 2 (get_or r 3 0) && between 1 4 (get_or r 4 0)
    && between 0 0 (get_or r 5 0)

-- the last two bytes, the de-minimis count, may be anything
unfoldable pub category_valid : ℕ → List ℕ → Bool
category_valid windows r = smart_valid windows r || advanced_valid r

-- what the two rules have in common, for the function that walks the fields: low is the least group and domestic, the others are the most
unfoldable pub fields_between : ℕ → ℕ → ℕ → ℕ → List ℕ → Bool
fields_between low group domestic window r =
    between low group (get_or r 1 0) && between low domestic (get_or r 2 0) && between 1 2 (get_or r 3 0) && between 1 4 (get_or r 4 0)
    && between 0 window (get_or r 5 0)
