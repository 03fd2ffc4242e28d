-- A heading's two lines.
use Rattle.std.proofs.Common.{◌≡◌, ℕ, List, ◌++◌, Option, None, Some, sym, ap, ◌∙◌, arith}
use Rattle.std.proofs.lemmas.List.{append_assoc}
use Rattle.board_times.specs.declared.lines.Line.{Line}
use Rattle.board_times.specs.declared.events.Heading.{Heading}
use Rattle.board_times.specs.Lines.{Fits, line_text}
use Rattle.board_times.specs.Times.{HeadingFits, digest_line, heading_text, version_line}
use Rattle.board_times.proofs.TextLemmas.{line_once}

abbrev first_of : Heading → Line
first_of heading = version_line 1 (Some heading.generation)

abbrev second_of : Heading → Line
second_of heading = digest_line heading.size heading.digest

pub first_fits : (heading : Heading) → HeadingFits heading → Fits (version_line 1 (Some heading.generation))
first_fits heading fits = (omega arith, fits.0)

pub two_lines : (heading : Heading) (more : List ℕ) → heading_text heading ++ more
    ≡ line_text (version_line 1 (Some heading.generation)) ++ (line_text (digest_line heading.size heading.digest) ++ more)
two_lines heading more = append_assoc (line_text (first_of heading)) (line_text (second_of heading)) more

pub first_line : (text left more : List ℕ) (first : Line) (heading : Heading) → Fits first → HeadingFits heading → text ≡ line_text first ++ left
    → text ≡ heading_text heading ++ more
    → (first ≡ version_line 1 (Some heading.generation)) × (left ≡ line_text (digest_line heading.size heading.digest) ++ more)
first_line text left more first heading fits heading-fits cut e =
    line_once first (first_of heading) left (line_text (second_of heading) ++ more) fits (first_fits heading heading-fits)
    (sym cut ∙ e ∙ two_lines heading more)

get_number : Option ℕ → ℕ
get_number None = 0
get_number (Some n) = n

number_in : Line → ℕ
number_in line = get_number line.tail.number

same_heading : (g h : Heading) → g.generation ≡ h.generation → g.size ≡ h.size → g.digest ≡ h.digest → g ≡ h
same_heading g h a b c =
    ap (λ n. let x : Heading = record { generation = n; size = g.size; digest = g.digest } in x) a
    ∙ ap (λ n. let x : Heading = record { generation = h.generation; size = n; digest = g.digest } in x) b
    ∙ ap (λ n. let x : Heading = record { generation = h.generation; size = h.size; digest = n } in x) c

pub heading_once : (g h : Heading) (a b : List ℕ) → HeadingFits g → HeadingFits h → heading_text g ++ a ≡ heading_text h ++ b → (g ≡ h) × (a ≡ b)
unfolding number_in get_number
heading_once g h a b fits fits-h e =
    let first = first_line (heading_text g ++ a) (line_text (second_of g) ++ a) b (first_of g) h (first_fits g fits) fits-h (two_lines g a) e in
    let second = line_once (second_of g) (second_of h) a b (fits.1, fits.2) (fits-h.1, fits-h.2) first.1 in (
      same_heading g h (ap number_in first.0) (ap (λ l. l.first) second.0) (ap number_in second.0),
      second.1,
    )
