-- what a report tells
pub mod Findings
-- what code keeps of a place
pub mod Points
-- its values in JSON, a line for each
pub mod JsonLines
-- its log in SARIF
pub mod Rules
pub mod Sarif
-- the whole report
pub mod Reports
