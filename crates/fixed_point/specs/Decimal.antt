-- What the text of a number says: its value in millionths, or why it is no number.
use Rattle.std.specs.Prelude.{ℕ, ◌+◌, ◌-◌, ◌*◌, ◌^◌, List, [], ◌∷◌, length, take, drop, Bool, false, if◌then◌else◌, ◌&&◌, ◌||◌, not, ◌==◌, nat_lt, ℤ, pos, neg_ℤ, Result, Ok, Err, position, Option, Some, None}
use Rattle.std.specs.List.{list_all}
use Rattle.desk_io.specs.Characters.{digit_zero, full_stop, is_digit, minus, plus}
use Rattle.fixed_point.specs.declared.limits.TheConstants.{MOST_DECIMALS, MOST_MILLIONTHS}
use Rattle.fixed_point.specs.declared.fault.NumberFault.{NumberFault}
use Rattle.fixed_point.specs.declared.fault.NumberFault.TheVariants.{NotNumber, TooLong, TooFar}

-- The text begins with a minus.
abbrev pub is_negative : List ℕ → Bool
is_negative [] = false
is_negative (b ∷ bs) = b == minus

-- The text behind its sign, if it has one.
abbrev pub unsigned_of : List ℕ → List ℕ
unsigned_of [] = []
unsigned_of (b ∷ bs) = if b == plus || b == minus then bs else (b ∷ bs)

-- The place of the first point.
abbrev pub point_in : List ℕ → Option ℕ
point_in text = position (λ b. b == full_stop) text

-- The text up to a point.
abbrev pub whole_at : Option ℕ → List ℕ → List ℕ
whole_at None text = text
whole_at (Some i) text = take i text

-- The text behind a point.
abbrev pub decimals_at : Option ℕ → List ℕ → List ℕ
decimals_at None text = []
decimals_at (Some i) text = drop (i + 1) text

-- The number that decimal digits spell behind a number.
unfoldable pub value_from : ℕ → List ℕ → ℕ
value_from n [] = n
value_from n (b ∷ bs) = value_from (10 * n + (b - digit_zero)) bs

-- Both sides of the point are digits, and there is one at least.
abbrev pub is_number : List ℕ → List ℕ → Bool
is_number whole decimals = list_all is_digit whole && list_all is_digit decimals && not ((length whole == 0) && (length decimals == 0))

-- The value of a whole part and of at most as many decimals as there are millionths.
abbrev pub millionths : List ℕ → List ℕ → ℕ
millionths whole decimals = value_from (value_from 0 whole) decimals * 10 ^ (MOST_DECIMALS - length decimals)

-- The value with its sign.
abbrev pub signed : Bool → ℕ → ℤ
signed negative n = if negative then neg_ℤ (pos n) else pos n

-- What the two sides of the point say: first the form is judged, then the count of decimals, then the size.
abbrev pub fix_of_parts : Bool → List ℕ → List ℕ → Result ℤ NumberFault
fix_of_parts negative whole decimals =
    if not (is_number whole decimals) then Err NotNumber
    else (if nat_lt MOST_DECIMALS (length decimals) then Err TooLong
    else (if nat_lt MOST_MILLIONTHS (millionths whole decimals) then Err TooFar
    else Ok (signed negative (millionths whole decimals))))

-- What a text says: a sign or none, digits, and a point or none among or beside them.
abbrev pub fix_of : List ℕ → Result ℤ NumberFault
fix_of text = let body = unsigned_of text in let point = point_in body in
    fix_of_parts (is_negative text) (whole_at point body) (decimals_at point body)
