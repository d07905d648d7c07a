pub mod ThreadViews
pub mod Standings
pub mod StandingsWanted
pub mod ProcessViews
pub mod FamilyViews
